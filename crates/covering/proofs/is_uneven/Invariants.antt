-- `covering::is_uneven` meets its contract: label by label.
use Rattle.covering.proofs.LoopCases.{Trying}
use Rattle.covering.proofs.is_uneven.Given as goal

abbrev pub invariant-loop-l : goal.invariant-loop-l
invariant-loop-l l = Trying l.table l.last l.first l.l
