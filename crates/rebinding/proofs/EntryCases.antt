-- A rebinding by a source that is refused.
use Rattle.std.proofs.Common.{◌≡◌, ◌≤◌, refl, ap, ℕ, Err}
use Rattle.text.specs.frames.Verdict.{Verdict, refused}
use Rattle.text.specs.frames.Refusal.{number_of, index_of, ticks_of}
use Rattle.text.specs.frames.Answer.{refusal, reply, verdict_reply}
use Rattle.text.specs.declared.frames.refusals.Refusal.{Refusal}
use Rattle.text.proofs.frames.Chains.{err-refused}
use Rattle.image.specs.Image.{Image}
use Rattle.state.specs.declared.State.{State as Kept}
use Rattle.state.specs.Kept.{view}
use Rattle.rebinding.specs.Rebind.{GivesRebindingOn}
use Rattle.rebinding.specs.inner.Sources.{sourced_rebind}
use Rattle.rebinding.proofs.RebindCases.{kept-rebinds, kept_state}

module _ (v : Verdict) (i : Image) (before : Kept) (h k : ℕ) (r : Refusal) (refuses : reply (Err r) ≡ verdict_reply v 0)
    (early : (n j : ℕ) → v ≡ refused n j → (1 ≤ n) × (n ≤ 16)) where
  told : (v ≡ refused (number_of r) (index_of r)) × (ticks_of r ≡ 0)
  told = err-refused (Err r) v 0 refuses r refl

  refused-is : sourced_rebind v i (view before) h k ≡ kept_state (number_of r) (index_of r) (view before)
  unfolding sourced_rebind
  refused-is = rw told.0

  pub refused-rebinds : GivesRebindingOn (sourced_rebind v i (view before) h k) before (Err r) before
  refused-rebinds =
      kept-rebinds _ before (number_of r) (index_of r) (view before) refused-is (early _ _ told.0).0
      (Err r) (ap (refusal (number_of r) (index_of r)) told.1)
