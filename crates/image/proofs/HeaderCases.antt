-- Tests of two numbers, as the code meets them.
use Rattle.std.proofs.Common.{◌≡◌, ap, true, false, not, ℕ, eq-eqb, ne_eqb, ◌==◌}

pub unequal : (a b : ℕ) → (a ≡ b → ⊥) → not (a == b) ≡ true
unequal a b h = ap not (ne_eqb a b h)

pub equal : (a b : ℕ) → a ≡ b → not (a == b) ≡ false
equal a b h = ap not (eq-eqb a b h)
