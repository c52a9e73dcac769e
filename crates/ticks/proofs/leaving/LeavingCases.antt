-- The label whose row a tick takes: by what the tick is, for each kind of the top label.
use Rattle.std.proofs.Common.{if◌then◌else◌, ◌≡◌, refl, sym, ◌∙◌, ◌⊎◌, inl, inr, Bool, true, false, List, ℕ, ◌-◌, ◌≤◌, ◌<◌, arith}
use Rattle.std.proofs.lemmas.Grind.{common_steps}
use Rattle.words.proofs.lists.Tests.{split}
use Rattle.image.specs.Decode.{last_label}
use Rattle.tables.specs.Table.{table_label, table_image}
use Rattle.tables.specs.inner.Asked.{Whole}
use Rattle.tables.specs.inner.Labels.{as_label}
use Rattle.tables.proofs.TableReads.{label-at}
use Rattle.rows.specs.Rows.{Found, found, missing}
use Rattle.rows.specs.inner.Search.{is_found}
use Rattle.rows.proofs.TableRows.{row-none, row-above, any-row}
use Rattle.state.specs.State.{State, place_at}
use Rattle.fitness.specs.Fitness.{is_call}
use Rattle.ticks.specs.Tick.{top_of, moved_tick, is_full_stack_kept, tick}
use Rattle.ticks.specs.inner.TickContracts.{bit_of}
use Rattle.ticks.specs.inner.Leaves.{number_got, LeavesBy}
use Rattle.ticks.proofs.TickCases.{tick-plain, tick-high, tick-home, tick-call, tick-kept, tick-drops, tick-back, tick-last}
use Rattle.ticks.proofs.RowCases.{bit-called}
use Rattle.tables.specs.declared.Label as declared

-- a tick that goes where a row leads is finished where there is one
moved-got : (m code : ℕ) (t : State) (k : ℕ) (f : Found) → number_got (moved_tick m code t k f) ≡ (if is_found f then 0 else 18)
moved-got m code t k (found l) = refl
moved-got m code t k missing = refl

module _ (b : List ℕ) (s : State) where
  abbrev Same : Type 0
  Same = (v w : ℕ) → tick (table_image b) s v ≡ tick (table_image b) s w

  -- ---- home, a label above M, and a call
  pub home-same : top_of s ≡ 0 → Same
  home-same e v w = tick-home b s v e ∙ sym (tick-home b s w e)

  pub high-same : (l : ℕ) → l ≡ top_of s → last_label b < l → Same
  high-same l at h v w = grind (arith, common_steps, tick-high)

  module _ (calls : is_call (table_label b (top_of s)) ≡ true) where
    full-same : s.size ≤ s.depth → (kept : Bool) → is_full_stack_kept (table_image b) s ≡ kept → Same
    full-same full true e v w = tick-kept b s v calls full e ∙ sym (tick-kept b s w calls full e)
    full-same full false e v w = tick-drops b s v calls full e ∙ sym (tick-drops b s w calls full e)

    same-by : (s.depth < s.size) ⊎ (s.size ≤ s.depth) → Same
    same-by (inl h) v w = tick-call b s v calls h ∙ sym (tick-call b s w calls h)
    same-by (inr h) v w = full-same h _ refl v w

    pub call-same : Same
    call-same = same-by (split s.depth s.size)

  -- ---- a plain tick
  pub plain-by : (l : ℕ) → l ≡ top_of s → 2 ≤ l → l ≤ last_label b → (table_label b l).kind ≡ 0
      → LeavesBy b s (record { label = l; bit = 2 })
  plain-by l at low high plain = record {
    low = low;
    high = high;
    deciding = grind (arith, common_steps);
    ends = λ w. grind (arith, common_steps, tick-plain, moved-got, any-row);
  }

  -- ---- a return
  module _ (y : Whole b) (at : top_of s ≡ 1) where
    pub last-same : s.depth < 2 → Same
    last-same h v w = tick-last b s v y at (omega arith) ∙ sym (tick-last b s w y at (omega arith))

    module _ (deep : 2 ≤ s.depth) where
      abbrev under : ℕ
      under = place_at s (s.depth - 2)

      pub low-same : under < 2 → Same
      low-same h v w = grind (arith, common_steps, tick-back, row-none)

      pub above-same : last_label b < under → Same
      above-same h v w = grind (arith, common_steps, tick-back, row-above)

      pub beneath-by : 2 ≤ under → under ≤ last_label b → (z : declared.Label) → as_label z ≡ table_label b under
          → (bit : ℕ) → bit ≡ bit_of z.kind z.called s.bits → LeavesBy b s (record { label = under; bit = bit })
      beneath-by low high z read bit e = record {
        low = low;
        high = high;
        deciding = grind (arith, common_steps);
        ends = λ w. grind (arith, common_steps, tick-back, moved-got, bit-called, any-row, label-at);
      }
