-- `chart_rows::row_bounds::bound_nodes`: the rows of the nodes before v are bounded.
use Rattle.std.proofs.Common.{rules}
use Rattle.chart_rows.proofs.row_bounds.BoundSteps.{bounding-on, bounding-done}
use Rattle.chart_rows.proofs.row_bounds.bound_nodes.Goals as goal

pub loop-v-preserved : goal.loop-v-preserved
loop-v-preserved c =
    let more = c.bound_node-total.ensures in
    bounding-on c.loop-v.invariant (search rules) more.bounded more.small

pub returns : goal.returns
returns c = bounding-done c.loop-v.invariant (search rules)
