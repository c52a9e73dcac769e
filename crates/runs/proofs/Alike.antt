-- On texts that are read alike a run is the same, and so is a tick.
use Rattle.std.proofs.Common.{ℕ, ◌≡◌, ap, List, [], ◌∷◌, arith}
use Rattle.std.proofs.lemmas.Grind.{common_steps}
use Rattle.text.specs.frames.Alike.{ReadAlike}
use Rattle.image.proofs.Alike.{image-verdict}
use Rattle.state.specs.State.{State}
use Rattle.runs.specs.Run.{RunOutcome, run_verdict, run}
use Rattle.runs.specs.TickOutcome.{tick_outcome, image_tick}

module _ (t u : List ℕ) (A : ReadAlike t u) (s : State) where
  pub runs : (words masks codes : List ℕ) → run t s words masks codes ≡ run u s words masks codes
  unfolding run run_verdict
  runs words masks codes = grind (arith, common_steps, image-verdict)

  pub advances : (word : ℕ) → image_tick t s word ≡ image_tick u s word
  unfolding image_tick
  advances word = ap (λ (r : RunOutcome). tick_outcome r) (runs (word ∷ []) (0 ∷ []) (0 ∷ []))
