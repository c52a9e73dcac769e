-- A run and a tick on a prepared table, whatever its bytes are: the machine's own ticks on the image that the table holds.
use Rattle.std.specs.Prelude.{ℕ, List, [], ◌∷◌}
use Rattle.text.specs.declared.frames.refusals.TheConstants.{BAD_HEADER, UNFIT, NO_ROOM}
use Rattle.text.specs.frames.Verdict.{Verdict, next, when}
use Rattle.tables.specs.Table.{is_bad_table, table_image}
use Rattle.state.specs.State.{State}
use Rattle.fitness.specs.Fitness.{is_unfit}
use Rattle.runs.specs.Run.{RunOutcome, has_no_room, ticks, run_on}
use Rattle.runs.specs.TickOutcome.{TickOutcome, tick_outcome}

-- 11 by the header and the length alone, then 15 and 16 as in any run
unfoldable pub live_verdict : List ℕ → State → List ℕ → List ℕ → List ℕ → Verdict
live_verdict b s words masks codes =
    next (when BAD_HEADER (is_bad_table b)) λ _.
    next (when UNFIT (is_unfit (table_image b) s)) λ _.
    when NO_ROOM (has_no_room words masks codes)

unfoldable pub live_run : List ℕ → State → List ℕ → List ℕ → List ℕ → RunOutcome
live_run b s words masks codes = run_on (live_verdict b s words masks codes) (λ _. ticks (table_image b) s words) s masks codes

unfoldable pub live_tick : List ℕ → State → ℕ → TickOutcome
live_tick b s w = tick_outcome (live_run b s (w ∷ []) (0 ∷ []) (0 ∷ []))
