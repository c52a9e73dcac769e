-- `chart_rows::count_rows`: the rows of the nodes before v are counted, up to the limit.
use Rattle.chart_rows.proofs.RowSteps.{CountingRows}
use Rattle.chart_rows.proofs.rows.count_rows.Given as goal

abbrev pub invariant-loop-v : goal.invariant-loop-v
invariant-loop-v l = CountingRows l.records l.most l.total l.v
