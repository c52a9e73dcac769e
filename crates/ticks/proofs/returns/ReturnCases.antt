-- What a return answers and leaves, by where the label beneath leads and by the state after each write.
use Rattle.std.proofs.Common.{◌≡◌, List, ℕ, ◌-◌, ◌≤◌, ◌<◌, arith, length, length-set, slice_index}
use Rattle.std.proofs.lemmas.Grind.{common_steps}
use Rattle.image.specs.Decode.{last_label}
use Rattle.tables.specs.Table.{table_label, table_image}
use Rattle.tables.specs.inner.Asked.{Whole}
use Rattle.tables.specs.inner.Labels.{as_label}
use Rattle.tables.proofs.TableReads.{label-at}
use Rattle.rows.specs.Rows.{best_row, Found, lead_of, next_of}
use Rattle.rows.proofs.TableRows.{row-none, row-above, any-row, next-small}
use Rattle.state.specs.State.{State, place_at}
use Rattle.state.specs.Changes.{with_depth, with_place, with_opened, with_alone}
use Rattle.state.specs.declared.State.{State as Kept}
use Rattle.state.specs.Kept.{view}
use Rattle.ticks.specs.declared.Stop.TheVariants.{NoRow}
use Rattle.ticks.specs.Tick.{top_of}
use Rattle.ticks.specs.inner.TickContracts.{beneath, bit_of, IsStopped, IsFinished}
use Rattle.ticks.proofs.TickCases.{tick-back, tick-last, moved-stops, moved-steps}
use Rattle.ticks.proofs.RowCases.{bit-called}
use Rattle.tables.specs.declared.Label as declared

-- ---- where the label beneath the top leads
module _ (b : List ℕ) (s : State) (w : ℕ) where
  abbrev under : ℕ
  under = place_at s (s.depth - 2)

  pub beneath-low : under < 2 → 256 ≡ next_of (beneath (table_image b) s w)
  beneath-low h = grind (arith, common_steps, row-none)

  pub beneath-high : last_label b < under → 256 ≡ next_of (beneath (table_image b) s w)
  beneath-high h = grind (arith, common_steps, row-above)

  pub beneath-row : 2 ≤ under → under ≤ last_label b → (z : declared.Label) → as_label z ≡ table_label b under
      → (bit : ℕ) → bit ≡ bit_of z.kind z.called s.bits
      → (n : ℕ) → n ≡ next_of (lead_of (best_row under w bit 0 (table_image b).rows)) → n ≡ next_of (beneath (table_image b) s w)
  beneath-row low high z read bit e n q = grind (arith, common_steps, bit-called, any-row, label-at)

-- ---- what the return answers and leaves
module _ (b : List ℕ) (y : Whole b) (before : Kept) (w : ℕ) (at : top_of (view before) ≡ 1) where
  abbrev s : State
  s = view before

  pub last-steps : s.depth < 2 → (after : Kept) → view after ≡ with_alone s 0 1
      → IsFinished b before w 0 3 0 after
  last-steps h after e = grind (arith, common_steps, tick-last)

  module _ (deep : 2 ≤ s.depth) (n : ℕ) (e : n ≡ next_of (beneath (table_image b) s w)) where
    abbrev row : Found
    row = beneath (table_image b) s w

    pub back-stop : ((k : ℕ) → slice_index b k < 256) → 256 ≤ n → IsStopped b before w NoRow before
    back-stop bytes h = moved-stops b before w _ _ _ _ row (tick-back b s w y at deep) n e (next-small b bytes (place_at s (s.depth - 2)) w _) h

    pub back-steps : n < 256 → s.depth - 2 < length s.places
        → (first second after : Kept) → view first ≡ with_opened s (s.depth - 1) 0 0 0 → view second ≡ with_place (view first) (s.depth - 2) n
        → view after ≡ with_depth (view second) (s.depth - 1)
        → IsFinished b before w 0 3 n after
    back-steps small low first second after e₁ e₂ e₃ =
        grind (arith, common_steps, tick-back, moved-steps, length-set)
