-- `chart_check::node_marks::sweep`: one turn for each node.
use Rattle.chart_check.proofs.node_marks.Sweeps.{Sweeping}
use Rattle.chart_check.proofs.node_marks.sweep.Given as goal

abbrev pub invariant-loop-v : goal.invariant-loop-v
invariant-loop-v l = Sweeping l.records l.fn.marks l.marks l.v
