-- A run and a tick by any source of a table: by what its bytes are refused for and the image that they hold. By an image's text these are
-- `run` and `image_tick`, by a prepared table `live_run` and `live_tick`.
use Rattle.std.specs.Prelude.{ℕ, List, [], ◌∷◌}
use Rattle.text.specs.declared.frames.refusals.TheConstants.{UNFIT, NO_ROOM}
use Rattle.text.specs.frames.Verdict.{Verdict, next, when}
use Rattle.image.specs.Image.{Image}
use Rattle.state.specs.State.{State}
use Rattle.fitness.specs.Fitness.{is_unfit}
use Rattle.runs.specs.Run.{RunOutcome, has_no_room, ticks, run_on}
use Rattle.runs.specs.TickOutcome.{TickOutcome, tick_outcome}

-- what the bytes are refused for, 15 and 16, then the ticks
unfoldable pub sourced_run : Verdict → Image → State → List ℕ → List ℕ → List ℕ → RunOutcome
sourced_run v i s words masks codes =
    run_on (next v λ _. next (when UNFIT (is_unfit i s)) λ _. when NO_ROOM (has_no_room words masks codes))
    (λ _. ticks i s words) s masks codes

unfoldable pub sourced_tick : Verdict → Image → State → ℕ → TickOutcome
sourced_tick v i s w = tick_outcome (sourced_run v i s (w ∷ []) (0 ∷ []) (0 ∷ []))
