-- What the functions of this module ask of their arguments:
-- an accepted chart with its labels, and a scheme of it or the number of its schemes.
use Rattle.std.specs.Prelude.{ℕ, ◌≤◌, ◌≡◌, List}
use Rattle.charts.specs.Chart.{Chart, schemes}
use Rattle.chart_rows.specs.inner.ChartContracts.{Charted}

pub record OfScheme (c : Chart) (labels : List ℕ) (h : ℕ) : Type 0 where
  pub chart : Charted c labels
  pub low : 1 ≤ h
  pub high : h ≤ schemes c

pub record Schemed (c : Chart) (labels : List ℕ) (highest : ℕ) : Type 0 where
  pub chart : Charted c labels
  pub schemed : highest ≡ schemes c
