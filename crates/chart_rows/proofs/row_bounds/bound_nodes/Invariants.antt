-- `chart_rows::row_bounds::bound_nodes`: the rows of the nodes before v are no more than the total.
use Rattle.chart_rows.proofs.row_bounds.BoundSteps.{Bounding}
use Rattle.chart_rows.proofs.row_bounds.bound_nodes.Given as goal

abbrev pub invariant-loop-v : goal.invariant-loop-v
invariant-loop-v l = Bounding l.records l.total l.v
