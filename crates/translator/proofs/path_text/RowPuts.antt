-- The steps of the functions that write the rows of paths, at plain values.
use Rattle.std.proofs.Common.{◌≡◌, ◌∙◌, ap, List, [], ◌∷◌, ◌++◌, append-nil, ℕ, ◌+◌, ◌≤◌, ◌<◌, arith, length}
use Rattle.std.proofs.Common.{slice_index}
use Rattle.std.proofs.lemmas.Grind.{common_steps}
use Rattle.words.proofs.lists.Joins.{concat-cons, concat-append}
use Rattle.text.specs.frames.Frame.{size}
use Rattle.charts.specs.Chart.{Chart}
use Rattle.image.specs.Image.{Row, row_frame, row}
use Rattle.chart_rows.specs.Labels.{label}
use Rattle.chart_rows.specs.inner.PathContracts.{PathAt}
use Rattle.chart_rows.specs.inner.ChartContracts.{Charted}
use Rattle.translator.specs.inner.RowBytes.{rows_bytes}
use Rattle.chart_rows.specs.inner.NodeRows.{paths_from, settled_node}
use Rattle.translator.specs.inner.LabelBytes.{Put}
use Rattle.translator.proofs.label_text.Puts.{Parted, done-as}
use Rattle.chart_rows.proofs.NumberLaws.{high-stops}
use Rattle.chart_rows.proofs.PathSteps.{path_row, at-stop}
use Rattle.chart_rows.proofs.PathCases.{Fork, arrived-inside, paths-end}

-- ---- the paths on from a node
pub rows-append : (a b : List Row) → rows_bytes (a ++ b) ≡ rows_bytes a ++ rows_bytes b
rows-append a b = concat-append row_frame a b

row-alone : (r : Row) → rows_bytes (r ∷ []) ≡ row_frame r
row-alone r = concat-cons row_frame r [] ∙ (append-nil (row_frame r))

-- a path whose rows are one: it ends at node u, which is a stop
pub record Ends (c : Chart) (notes : List ℕ) (care values v u : ℕ) : Type 0 where
  pub chart : Charted c notes
  pub inside : u < size c
  pub one : (l f : ℕ) → paths_from (size c) c l f care values v ≡ path_row c l f care values u ∷ []

module _ {c : Chart} {notes : List ℕ} {care values v u : ℕ} (e : Ends c notes care values v u) (l f : ℕ) where
  end-bytes : rows_bytes (paths_from (size c) c l f care values v) ≡ row_frame (row l care values f (label c u))
  end-bytes = ap rows_bytes (e.one l f) ∙ row-alone (row l care values f (label c u))

  end-length : length (rows_bytes (paths_from (size c) c l f care values v)) ≡ 10
  end-length = ap (λ (x : List ℕ). length x) end-bytes

  pub end-room : (at : ℕ) {n : ℕ} → at + length (rows_bytes (paths_from (size c) c l f care values v)) ≤ n → at + 10 ≤ n
  end-room at h = omega (arith, end-length)

  pub end-done : {out out' : List ℕ} {at r : ℕ} → Put out at (row_frame (row l care values f (slice_index notes u))) r out'
      → Put out at (rows_bytes (paths_from (size c) c l f care values v)) r out'
  end-done p = grind (arith, common_steps, done-as, end-bytes, e.chart.labelled.at u e.inside)

-- a path that comes to node v: at a stop it ends, and past the conditions that it met before it comes to node u
module _ {c : Chart} {notes : List ℕ} {care values v : ℕ} (p : PathAt c notes care values v) where
  pub ends-at-once : 15 < slice_index notes (256 + v) → Ends c notes care values v v
  ends-at-once h = record {
    chart = p.noted.chart;
    inside = p.entered.inside;
    one = λ l f. at-stop c p.noted.chart.ready l f care values v p.entered
        (high-stops c p.noted.chart.ready v _ p.entered (p.noted.numbers v p.entered.inside) h);
  }

  pub ends : {u : ℕ} → u ≡ settled_node (size c) c care values v → 15 < slice_index notes (256 + u) → Ends c notes care values v u
  ends came h = record { chart = p.noted.chart; inside = arrived-inside p came; one = paths-end p came h }

pub fork-parts : {c : Chart} {care values v tested valued w0 w1 : ℕ} → Fork c care values v tested valued w0 w1 → (l f : ℕ)
    → Parted (rows_bytes (paths_from (size c) c l f care values v)) (rows_bytes (paths_from (size c) c l f tested values w0))
    (rows_bytes (paths_from (size c) c l f tested valued w1))
fork-parts k l f = grind (arith, common_steps, rows-append)
