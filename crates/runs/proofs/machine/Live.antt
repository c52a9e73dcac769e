-- On the table that was prepared from an image, live runs and live ticks are the image's own, from every state.
use Rattle.std.proofs.Common.{ℕ, ◌≡◌, ap, List, [], ◌∷◌, arith}
use Rattle.std.proofs.lemmas.Grind.{common_steps}
use Rattle.state.specs.State.{State}
use Rattle.runs.specs.Run.{run, run_verdict}
use Rattle.runs.specs.TickOutcome.{tick_outcome, image_tick}
use Rattle.runs.specs.machine.Live.{live_verdict, live_run, live_tick}
use Rattle.runs.specs.machine.Prepared.{PreparedTable}

module _ {t b : List ℕ} (p : PreparedTable t b) where
  pub live-run-is : (s : State) (ws ms ks : List ℕ) → live_run b s ws ms ks ≡ run t s ws ms ks
  unfolding live_run live_verdict run run_verdict
  live-run-is s ws ms ks = grind (arith, common_steps)

  pub live-tick-is : (s : State) (w : ℕ) → live_tick b s w ≡ image_tick t s w
  unfolding live_tick image_tick
  live-tick-is s w = ap tick_outcome (live-run-is s (w ∷ []) (0 ∷ []) (0 ∷ []))
