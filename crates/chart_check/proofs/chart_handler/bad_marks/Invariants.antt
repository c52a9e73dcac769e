-- `chart_check::chart_handler::bad_marks`: scheme 1 has no mark among the nodes passed, and at most one of them is marked.
use Rattle.chart_check.proofs.chart_handler.HandlerLoops.{Marking}
use Rattle.chart_check.proofs.chart_handler.bad_marks.Given as goal

abbrev pub invariant-loop-v : goal.invariant-loop-v
invariant-loop-v l = Marking l.records l.n l.v l.marked
