-- What the tests on a stack size and a depth tell.
use Rattle.std.proofs.Common.{ℕ, ◌≤◌, false, ◌≡◌, arith, ltb-false, le-ltb, ne_eqb, nat_lt, ◌==◌}
use Rattle.words.proofs.lists.Tests.{or-r, or-none}
use Rattle.state.specs.State.{is_bad_size}

pub size-most : (n : ℕ) → is_bad_size n ≡ false → n ≤ 32
size-most n e = ltb-false 32 n (or-r (n == 0) (nat_lt 32 n) e)

pub size-good : (n : ℕ) → 1 ≤ n → n ≤ 32 → is_bad_size n ≡ false
size-good n h k = or-none (n == 0) (nat_lt 32 n) (ne_eqb n 0 (λ z. omega arith)) (le-ltb 32 n k)
