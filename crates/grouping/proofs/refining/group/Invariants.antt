-- `grouping::refining::group` meets its contract: the buffer holds the classes after k rounds, the marks are those of the last.
use Rattle.grouping.proofs.GroupSteps.{Rounding}
use Rattle.grouping.proofs.refining.group.Given as goal

abbrev pub invariant-loop-k : goal.invariant-loop-k
invariant-loop-k l = Rounding l.table.bytes.now l.fn.classes l.classes l.marks l.touched l.n l.k
