use Rattle.std.proofs.Common.{arith}
use Rattle.state.specs.Kept.{view}
use Rattle.ticks.proofs.returns.ReturnCases.{beneath-low, beneath-high, beneath-row}
use Rattle.ticks.proofs.returns.next_beneath.Goals as goal

pub returns-then-l-lt2 : goal.returns-then-l-lt2
returns-then-l-lt2 c = beneath-low _ (view c.args.state.now) _ c.if-l-lt2.true

pub returns-then-table-l : goal.returns-then-table-l
returns-then-table-l c = beneath-high _ (view c.args.state.now) _ (omega (arith, c.args.table.now.last_read, c.if-table-l.true))

pub returns : goal.returns
returns c =
    beneath-row _ (view c.args.state.now) _ c.if-l-lt2.false (omega (arith, c.args.table.now.last_read, c.if-table-l.false))
    _ c.numbered_label-label.ensures _ c.bit_of-bit.ensures _ c.next_row.ensures
