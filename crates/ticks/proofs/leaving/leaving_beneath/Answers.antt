-- `ticks::leaving::leaving_beneath` meets its contract: at depth 1, and by the label beneath.
use Rattle.std.proofs.Common.{arith}
use Rattle.std.proofs.lemmas.Grind.{common_steps}
use Rattle.state.specs.Kept.{view}
use Rattle.ticks.proofs.leaving.LeavingCases.{last-same, low-same, above-same, beneath-by}
use Rattle.ticks.proofs.leaving.leaving_beneath.Goals as goal

pub returns-then-state-lt2 : goal.returns-then-state-lt2
returns-then-state-lt2 c = grind (arith, common_steps, last-same)

pub returns-then-l-lt2 : goal.returns-then-l-lt2
returns-then-l-lt2 c = grind (arith, common_steps, low-same)

pub returns-then-table-l : goal.returns-then-table-l
returns-then-table-l c = grind (arith, common_steps, above-same)

pub returns : goal.returns
returns c =
    beneath-by _ (view c.args.state.now) c.args.table.now.whole c.requires.label c.if-state-lt2.false c.if-l-lt2.false
    (omega (arith, c.args.table.now.last_read, c.if-table-l.false)) _ c.numbered_label-label.ensures _ c.bit_of-bit.ensures
