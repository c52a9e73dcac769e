-- What refusal 22 says, test by test.
use Rattle.std.proofs.Common.{ℕ, ◌≤◌, false, ◌≡◌, arith}
use Rattle.std.proofs.lemmas.Grind.{common_steps}
use Rattle.bindings.specs.Binding.{is_bad_rebinding}

module _ (H g h k : ℕ) where
  -- number and scheme are of 2 to H, and the number is not the handler's
  pub record AllowedRebinding : Type 0 where
    pub number-low : 2 ≤ h
    pub number-high : h ≤ H
    pub scheme-low : 2 ≤ k
    pub scheme-high : k ≤ H
    pub other : h ≡ g → ⊥

  pub allowed : is_bad_rebinding H g h k ≡ false → AllowedRebinding
  allowed e = grind (arith, common_steps)
