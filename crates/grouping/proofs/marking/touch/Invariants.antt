-- `grouping::marking::touch` meets its contract: it holds of the rows before frame f.
use Rattle.grouping.proofs.Touches.{Touching}
use Rattle.grouping.proofs.marking.touch.Given as goal

abbrev pub invariant-loop-f : goal.invariant-loop-f
invariant-loop-f l = Touching l.table.bytes.now l.marks l.touched l.f
