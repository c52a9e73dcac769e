-- `runs::table_runs::run_table` meets its contract: 15 and 16 in turn, then what the ticks leave.
use Rattle.std.proofs.Common.{refl, sym, ◌∙◌, arith}
use Rattle.std.proofs.lemmas.Grind.{common_steps}
use Rattle.runs.proofs.RunCases.{unfit-answer, short-answer, ran-answer, fits-deep}
use Rattle.runs.proofs.table_runs.run_table.Goals as goal

pub returns-then-is_unfit : goal.returns-then-is_unfit
returns-then-is_unfit c = unfit-answer _ _ _ _ _ _ c.is_unfit.ensures c.if-is_unfit.true

pub returns-then-no_room : goal.returns-then-no_room
returns-then-no_room c = grind (arith, common_steps, short-answer)

pub tick_all-ended-requires-clause-depth : goal.tick_all-ended-requires-clause-depth
tick_all-ended-requires-clause-depth c = fits-deep _ _ (sym c.is_unfit.ensures ∙ c.if-is_unfit.false)

pub returns-in-Over : goal.returns-in-Over
returns-in-Over c =
    ran-answer c.is_unfit.ensures c.if-is_unfit.false c.no_room.ensures c.if-no_room.false c.tick_all-ended.ensures c.tidy.ensures c.in-Over.is refl

pub returns-in-Full : goal.returns-in-Full
returns-in-Full c =
    ran-answer c.is_unfit.ensures c.if-is_unfit.false c.no_room.ensures c.if-no_room.false c.tick_all-ended.ensures c.tidy.ensures c.in-Full.is refl

pub returns-in-NoRow : goal.returns-in-NoRow
returns-in-NoRow c =
    ran-answer c.is_unfit.ensures c.if-is_unfit.false c.no_room.ensures c.if-no_room.false c.tick_all-ended.ensures c.tidy.ensures c.in-NoRow.is refl
