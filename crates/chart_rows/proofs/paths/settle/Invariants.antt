-- `chart_rows::settle`: each turn passes one condition, and the rank falls.
use Rattle.charts.proofs.Rank.{rank}
use Rattle.chart_rows.proofs.Settled.{Passing}
use Rattle.chart_rows.proofs.paths.settle.Given as goal

abbrev pub invariant-loop-side : goal.invariant-loop-side
invariant-loop-side l = Passing l.records l.care l.values l.node l.at

abbrev pub decreases-loop-side : goal.decreases-loop-side
decreases-loop-side l = rank l.records l.at
