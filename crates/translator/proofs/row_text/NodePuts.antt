-- The rows of a node, by its kind and by its two sides, at plain values.
use Rattle.std.proofs.Common.{◌≡◌, ap, [], ℕ, ◌^◌, ◌≤◌, ◌<◌, List, arith, bit_or, slice_index}
use Rattle.std.proofs.lemmas.Grind.{common_steps}
use Rattle.text.specs.frames.Frame.{size}
use Rattle.charts.specs.Chart.{Chart, kind, argument, next0, next1}
use Rattle.chart_rows.specs.Labels.{label}
use Rattle.chart_rows.specs.inner.NodeRows.{paths_from, sides}
use Rattle.chart_rows.specs.inner.PathContracts.{NotedAt, SidesAt}
use Rattle.chart_rows.proofs.RowSteps.{no-rows, rows-function, rows-condition, rows-other}
use Rattle.translator.proofs.label_text.Puts.{Parted}
use Rattle.translator.specs.inner.RowBytes.{rows_bytes}
use Rattle.translator.proofs.path_text.RowPuts.{rows-append}
use Rattle.translator.specs.inner.NodeBytes.{node_rows_bytes}

module _ {c : Chart} {notes : List ℕ} {v : ℕ} (node : NotedAt c notes v) where
  pub node-none : slice_index notes v < 2 → node_rows_bytes c v ≡ []
  node-none h = ap rows_bytes (no-rows node h)

  module _ (h : 2 ≤ slice_index notes v) {k : ℕ} (ek : k ≡ kind c v) where
    pub node-function : 3 ≤ k → (k ≡ 3 → ⊥) → node_rows_bytes c v ≡ rows_bytes (sides c (label c v) 0 1 0 0 v)
    node-function a b = ap rows_bytes (rows-function node h ek a b)

    pub node-condition : k ≡ 3 → {i o : ℕ} → i ≡ argument c v → o ≡ bit_or 0 (2 ^ i)
        → node_rows_bytes c v ≡ rows_bytes (sides c (label c v) 2 2 o o v)
    node-condition e ei eo = ap rows_bytes (rows-condition node h ek e ei eo)

    pub node-other : k < 3 → {w : ℕ} → w ≡ next0 c v
        → node_rows_bytes c v ≡ rows_bytes (paths_from (size c) c (slice_index notes v) 2 0 0 w)
    node-other a e = grind (arith, common_steps, rows-other, node.noted.chart.labelled.at v node.inside)

pub sides-text : {c : Chart} {notes : List ℕ} {care values v w0 w1 : ℕ} → SidesAt c notes care values v → w0 ≡ next0 c v → w1 ≡ next1 c v
    → (f g : ℕ) → Parted (rows_bytes (sides c (label c v) f g care values v))
    (rows_bytes (paths_from (size c) c (slice_index notes v) f care 0 w0))
    (rows_bytes (paths_from (size c) c (slice_index notes v) g care values w1))
sides-text {c} {notes} {care} {values} {v} s e0 e1 f g = grind (arith, common_steps, rows-append, s.noted.chart.labelled.at v s.inside)
