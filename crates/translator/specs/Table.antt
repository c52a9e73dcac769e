-- The table of a chart.
use Rattle.std.specs.Prelude.{◌∷◌, map}
use Rattle.words.specs.lists.Numbers.{range}
use Rattle.charts.specs.Chart.{Chart, handler, schemes}
use Rattle.image.specs.Image.{Image}
use Rattle.chart_rows.specs.Labels.{entry, home_label, return_label, stop_label, numbered_nodes}
use Rattle.chart_rows.specs.Rows.{rows}

unfoldable pub table : Chart → Image
table c = record {
  handler = handler c;
  entries = map (entry c) (range 1 (schemes c));
  labels = home_label ∷ return_label ∷ map (stop_label c) (numbered_nodes c);
  rows = rows c;
}
