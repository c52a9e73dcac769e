-- What the functions that write an image ask of their arguments.
use Rattle.std.specs.Prelude.{ℕ, ◌+◌, ◌*◌, ◌≤◌, ◌≡◌, List, length}
use Rattle.words.specs.lists.Numbers.{count}
use Rattle.text.specs.declared.frames.sizes.TheConstants.{LINE, ROWS}
use Rattle.text.specs.frames.Frame.{size}
use Rattle.charts.specs.Chart.{Chart, schemes}
use Rattle.chart_rows.specs.Labels.{is_numbered}
use Rattle.chart_rows.specs.Rows.{rows}
use Rattle.chart_rows.specs.inner.PathContracts.{Noted}

-- the numbers of schemes, of nodes with a label of their own, and of rows
pub record Sizes (c : Chart) (highest own total : ℕ) : Type 0 where
  pub schemed : highest ≡ schemes c
  pub owned : own ≡ count (is_numbered c) 0 (size c)
  pub rowed : total ≡ length (rows c)

-- a chart with the notes on its nodes and its sizes, and a buffer with room for its image
pub record ImageRoom (c : Chart) (notes : List ℕ) (highest own : ℕ) (out : List ℕ) : Type 0 where
  pub noted : Noted c notes
  pub sizes : Sizes c highest own (length (rows c))
  pub few : length (rows c) ≤ ROWS
  pub room : LINE * (3 + highest + own + length (rows c)) ≤ length out
