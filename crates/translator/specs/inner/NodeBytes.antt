-- The rows of a node as bytes.
use Rattle.std.specs.Prelude.{ℕ, List}
use Rattle.charts.specs.Chart.{Chart}
use Rattle.chart_rows.specs.inner.NodeRows.{node_rows}
use Rattle.translator.specs.inner.RowBytes.{rows_bytes}

-- the frames of the rows of node v
abbrev pub node_rows_bytes : Chart → ℕ → List ℕ
node_rows_bytes c v = rows_bytes (node_rows c v)
