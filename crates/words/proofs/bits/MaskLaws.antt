-- One condition more in a care mask: the mask stays below 2 ^ k, the values stay within it.
use Rattle.std.proofs.Common.{ℕ, zero, suc, ◌+◌, ◌/◌, ◌%◌, ◌^◌, ◌≤◌, ◌<◌, ◌≡◌, sym, ◌∙◌, ap, pow-suc, one-add, arith, bit_and, shr-shr}
use lib.Bits.{and_step}
use Rattle.std.proofs.lemmas.Grind.{common_steps}
use Rattle.std.specs.Int.{bit_at}
use Rattle.words.proofs.bits.BitLaws.{bit-zero, bit-and}

pub bit-suc : (c a : ℕ) → bit_at c (suc a) ≡ bit_at (c / 2) a
bit-suc c a = ap (λ (n : ℕ). c / 2 ^ n % 2) (sym (one-add a)) ∙ sym (ap (λ (x : ℕ). x % 2) (shr-shr c 1 a))

pub half-power : (c a : ℕ) → (c + 2 ^ suc a) / 2 ≡ c / 2 + 2 ^ a
half-power c a = omega (arith, pow-suc 2 a)

pub odd-power : (c a : ℕ) → (c + 2 ^ suc a) % 2 ≡ c % 2
odd-power c a = omega (arith, pow-suc 2 a)

-- the mask stays small
pub more-small : (a k c : ℕ) → a < k → c < 2 ^ k → (bit_at c a ≡ 1 → ⊥) → c + 2 ^ a < 2 ^ k
more-small zero zero c l h n = grind (arith, common_steps)
more-small zero (suc k) c l h n = grind (arith, common_steps, pow-suc, bit-zero)
more-small (suc a) zero c l h n = grind (arith, common_steps)
more-small (suc a) (suc k) c l h n = grind (arith, common_steps, more-small a k (c / 2) (omega arith) (omega (arith, pow-suc 2 k)) (λ o. n (bit-suc c a ∙ o)), pow-suc, bit-suc)

-- within, by halves
pub within-half : (v c : ℕ) → bit_and v c ≡ v → (bit_and (v / 2) (c / 2) ≡ v / 2) × (v % 2 ≤ c % 2)
within-half v c e = (omega (arith, e, and_step v c), omega (arith, e, and_step v c))

pub half-within : (v c : ℕ) → bit_and (v / 2) (c / 2) ≡ v / 2 → v % 2 ≤ c % 2 → bit_and v c ≡ v
half-within v c e l = and_step v c ∙ omega (arith, e)

pub more-within-0 : (a v c : ℕ) → (bit_at c a ≡ 1 → ⊥) → bit_and v c ≡ v → bit_and v (c + 2 ^ a) ≡ v
more-within-0 zero v c n e = grind (arith, common_steps, bit-zero, within-half, half-within)
more-within-0 (suc a) v c n e = grind (arith, common_steps, more-within-0 a (v / 2) (c / 2) (λ o. n (bit-suc c a ∙ o)), bit-suc, half-power, odd-power, within-half, half-within)

pub more-within-1 : (a v c : ℕ) → (bit_at c a ≡ 1 → ⊥) → bit_and v c ≡ v → bit_and (v + 2 ^ a) (c + 2 ^ a) ≡ v + 2 ^ a
more-within-1 zero v c n e = grind (arith, common_steps, bit-zero, within-half, half-within)
more-within-1 (suc a) v c n e = grind (arith, common_steps, more-within-1 a (v / 2) (c / 2) (λ o. n (bit-suc c a ∙ o)), bit-suc, half-power, odd-power, within-half, half-within)

-- what the mask lacks the values lack
pub within-lacks : (a v c : ℕ) → bit_and v c ≡ v → (bit_at c a ≡ 1 → ⊥) → bit_at v a ≡ 0
within-lacks a v c e n = grind (arith, common_steps, bit-and)
