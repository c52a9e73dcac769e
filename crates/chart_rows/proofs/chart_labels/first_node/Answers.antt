-- `chart_rows::chart_labels::first_node`: the arc of the Begin that was found.
use Rattle.chart_rows.proofs.chart_labels.NodeSteps.{first-asks}
use Rattle.chart_rows.proofs.chart_labels.first_node.Goals as goal

pub field-requires : goal.field-requires
field-requires c = first-asks _ c.requires _ c.begin-v.ensures
