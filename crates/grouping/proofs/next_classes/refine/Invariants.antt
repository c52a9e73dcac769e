-- `grouping::next_classes::refine` meets its contract: the next classes of the labels before l stand in the buffer.
use Rattle.grouping.proofs.RoundSteps.{Refining}
use Rattle.grouping.proofs.next_classes.refine.Given as goal

abbrev pub invariant-loop-l : goal.invariant-loop-l
invariant-loop-l l = Refining l.round.table.bytes.now l.round.classes.now l.fn.next l.next l.last l.l
