-- What acceptance of a chart gives for its table: labels, entries, and where the row that a label takes leads.
use Rattle.std.proofs.Common.{if◌then◌else◌, ℕ, ◌≤◌, ◌<◌, Bool, true, ◌≡◌, length}
use Rattle.text.specs.frames.Frame.{size}
use Rattle.charts.specs.Chart.{Chart, kind, next0, next1, schemes}
use Rattle.walk.specs.Stops.{is_stop, by_arc, by_word}
use Rattle.chart_rows.specs.Labels.{is_numbered, label, entry, home_label, return_label, stop_label}
use Rattle.chart_rows.specs.Rows.{rows}
use Rattle.translator.specs.Table.{table}
use Rattle.state.specs.State.{label_at, entry_at}
use Rattle.rows.specs.Rows.{best_row, found, lead_of}

pub record TableFacts (c : Chart) : Type 0 where
  -- labels: 0 and 1 as they always are, from 2 on one for each numbered stop
  pub highest : (2 ≤ length (table c).labels) × (length (table c).labels ≤ 256)
  pub labels0 : label_at (table c) 0 ≡ home_label
  pub labels1 : label_at (table c) 1 ≡ return_label
  pub numbers : (v : ℕ) → v < size c → is_numbered c v ≡ true
      → (2 ≤ label c v) × (label c v < length (table c).labels) × (label_at (table c) (label c v) ≡ stop_label c v)
  pub apart : (u v : ℕ) → u < size c → v < size c → is_numbered c u ≡ true → is_numbered c v ≡ true → label c u ≡ label c v → u ≡ v
  pub entries : (h : ℕ) → 1 ≤ h → h ≤ schemes c → entry_at (table c) h ≡ entry c h
  -- rows: the one taken by word and bit leads to the label of the stop where the walk goes
  pub row-plain : (v w b : ℕ) → v < size c → kind c v ≡ 2
      → lead_of (best_row (label c v) w b 0 (rows c)) ≡ found (label c (by_arc c w (next0 c v)))
  pub row-begin : (v w b : ℕ) → v < size c → kind c v ≡ 0 → is_stop c v ≡ true
      → lead_of (best_row (label c v) w b 0 (rows c)) ≡ found (label c (by_word c w (next0 c v)))
  pub row-condition : (v w b : ℕ) → v < size c → kind c v ≡ 3 → is_stop c v ≡ true
      → lead_of (best_row (label c v) w b 0 (rows c)) ≡ found (label c (by_word c w v))
  pub row-function : (v w : ℕ) (b : Bool) → v < size c → kind c v ≡ 4
      → lead_of (best_row (label c v) w (if b then 1 else 0) 0 (rows c)) ≡ found (label c (by_arc c w (if b then next1 c v else next0 c v)))
