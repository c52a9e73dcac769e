-- `chart_rows::note_nodes`: the labels, then the numbers behind them.
use Rattle.chart_rows.proofs.chart_labels.LabelSteps.{labelled}
use Rattle.std.proofs.Common.{arith}
use Rattle.std.proofs.lemmas.Grind.{common_steps}
use Rattle.chart_rows.proofs.numbers.note_nodes.Goals as goal

pub number_nodes-requires : goal.number_nodes-requires
number_nodes-requires c = grind (arith, common_steps, labelled)
