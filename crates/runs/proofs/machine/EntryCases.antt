-- A run or a tick by a source that is refused: no refusal changes a buffer or a state.
use Rattle.std.proofs.Common.{◌≡◌, ◌≤◌, refl, ap, List, ℕ, arith, Err}
use Rattle.std.proofs.lemmas.Grind.{common_steps}
use Rattle.text.specs.frames.Verdict.{Verdict, refused}
use Rattle.text.specs.declared.frames.refusals.Refusal.{Refusal}
use Rattle.text.specs.frames.Refusal.{number_of, index_of, ticks_of}
use Rattle.text.specs.frames.Answer.{refusal, reply, verdict_reply}
use Rattle.text.proofs.frames.Chains.{err-refused}
use Rattle.image.specs.Image.{Image}
use Rattle.state.specs.declared.State.{State as Kept}
use Rattle.state.specs.Kept.{view}
use Rattle.runs.specs.InPlace.{GivesRunOn, GivesTickOn}
use Rattle.runs.specs.inner.Sources.{sourced_run, sourced_tick}
use Rattle.runs.proofs.RunCases.{kept_run, kept-runs}

module _ (v : Verdict) (i : Image) (before : Kept) (r : Refusal) (refuses : reply (Err r) ≡ verdict_reply v 0)
    (early : (n j : ℕ) → v ≡ refused n j → (1 ≤ n) × (n ≤ 16)) where
  told : (v ≡ refused (number_of r) (index_of r)) × (ticks_of r ≡ 0)
  told = err-refused (Err r) v 0 refuses r refl

  refused-is : (ws ms ks : List ℕ) → sourced_run v i (view before) ws ms ks ≡ kept_run (number_of r) (index_of r) (view before) ms ks
  unfolding sourced_run
  refused-is ws ms ks = rw told.0

  pub refused-runs : (ws ms ks : List ℕ) → GivesRunOn (sourced_run v i (view before) ws ms ks) before (Err r) before ms ks
  refused-runs ws ms ks =
      kept-runs _ before ms ks (number_of r) (index_of r) (view before) (refused-is ws ms ks) (early _ _ told.0).0 (early _ _ told.0).1
      (Err r) (ap (refusal (number_of r) (index_of r)) told.1)

  pub refused-ticks : (w : ℕ) → GivesTickOn (sourced_tick v i (view before) w) before (Err r) before
  unfolding sourced_tick sourced_run
  refused-ticks w = grind (arith, common_steps, told, early)
