-- Kinds that are calls.
use Rattle.std.proofs.Common.{ℕ, zero, suc, ◌≤◌, ◌<◌, true, ◌||◌, ◌≡◌, refl, arith, ◌==◌}

-- kinds 1 and 2 are calls
pub kind-call : (k : ℕ) → 1 ≤ k → k < 3 → (k == 1 || k == 2) ≡ true
kind-call zero h l = absurd (omega arith)
kind-call (suc zero) h l = refl
kind-call (suc (suc zero)) h l = refl
kind-call (suc (suc (suc k))) h l = absurd (omega arith)
