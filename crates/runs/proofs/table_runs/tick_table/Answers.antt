-- `runs::table_runs::tick_table` meets its contract: an unfit state, a tick that is stopped, or one that is finished.
use Rattle.std.proofs.Common.{sym, ◌∙◌}
use Rattle.runs.proofs.RunCases.{fits-deep, tick-unfit, tick-stopped, tick-finished}
use Rattle.runs.proofs.table_runs.tick_table.Goals as goal

pub returns-then-is_unfit : goal.returns-then-is_unfit
returns-then-is_unfit c = tick-unfit _ _ _ _ c.is_unfit.ensures c.if-is_unfit.true

pub tick_word-requires : goal.tick_word-requires
tick_word-requires c = fits-deep _ _ (sym c.is_unfit.ensures ∙ c.if-is_unfit.false)

pub returns-in-Ok : goal.returns-in-Ok
returns-in-Ok c = tick-finished _ _ _ _ c.is_unfit.ensures c.if-is_unfit.false _ _ c.in-Ok.ensures _ c.tidy.ensures

pub returns-in-Err : goal.returns-in-Err
returns-in-Err c = tick-stopped _ _ _ _ c.is_unfit.ensures c.if-is_unfit.false _ _ c.in-Err.ensures _ c.refusal_of.ensures
