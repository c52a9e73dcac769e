-- `chart_rows::chart_labels::label_nodes` meets its contract:
-- the labels of the nodes passed stand in the buffer, and those of their own are counted.
use Rattle.chart_rows.proofs.chart_labels.LabelSteps.{Labelling}
use Rattle.chart_rows.proofs.chart_labels.label_nodes.Given as goal

abbrev pub invariant-loop-v : goal.invariant-loop-v
invariant-loop-v l = Labelling l.records l.fn.labels l.labels l.own l.v
