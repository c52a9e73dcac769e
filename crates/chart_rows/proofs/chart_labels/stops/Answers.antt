-- `chart_rows::chart_labels::stops` meets its contract: the arc of a Begin leads to a node.
use Rattle.std.proofs.Common.{arith}
use Rattle.std.proofs.lemmas.Grind.{common_steps}
use Rattle.chart_rows.proofs.chart_labels.NodeSteps.{begin-asks}
use Rattle.chart_rows.proofs.chart_labels.stops.Goals as goal

pub begin_stops-requires-clause-next_inside : goal.begin_stops-requires-clause-next_inside
begin_stops-requires-clause-next_inside c = grind (arith, common_steps, begin-asks)
