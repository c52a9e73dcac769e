-- `ticks::leaving::leaving_top` meets its contract: a label above M, a call, and a plain tick.
use Rattle.std.proofs.Common.{arith}
use Rattle.std.proofs.lemmas.Grind.{common_steps}
use Rattle.state.specs.Kept.{view}
use Rattle.ticks.proofs.leaving.LeavingCases.{high-same, call-same, plain-by}
use Rattle.ticks.proofs.leaving.leaving_top.Goals as goal

pub returns-then-table-l : goal.returns-then-table-l
returns-then-table-l c = grind (arith, common_steps, high-same)

pub returns-in-1-to-2 : goal.returns-in-1-to-2
returns-in-1-to-2 c = call-same _ (view c.args.state.now) (grind (arith, common_steps))

pub returns-in_default : goal.returns-in_default
returns-in_default c =
    plain-by _ (view c.args.state.now) _ c.requires.label c.requires.low (omega (arith, c.args.table.now.last_read, c.if-table-l.false))
    (omega arith)
