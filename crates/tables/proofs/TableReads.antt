-- The image that a table holds, label by label and entry by entry.
use Rattle.std.proofs.Common.{ℕ, ◌+◌, ◌-◌, ◌≤◌, ◌<◌, false, ◌≡◌, refl, List, zero-add, arith, length, nat_lt, slice_index, slice_index_or}
use Rattle.std.proofs.Common.{lt-ltb, le-ltb}
use Rattle.std.proofs.Math.ListN.{get_or-eq_default}
use Rattle.std.proofs.lemmas.Grind.{common_steps}
use Rattle.std.proofs.lemmas.Bool.{cond-true, cond-false}
use Rattle.words.proofs.lists.Tests.{split}
use Rattle.words.proofs.lists.Ranges.{length-map-range, get_or-map-range}
use Rattle.image.specs.Image.{no_label}
use Rattle.image.specs.Decode.{scheme_count, last_label, row_count, handler_in, entry_in}
use Rattle.image.specs.Check.{has_bad_counts}
use Rattle.tables.specs.Table.{table_image, label_on, table_label}
use Rattle.tables.specs.inner.Asked.{entry_of, Whole}

-- ---- counts that refusal 11 lets pass
pub record CountsHold (b : List ℕ) : Type 0 where
  pub first : 1 ≤ scheme_count b
  pub most : scheme_count b ≤ 16
  pub two : 1 ≤ last_label b
  pub few : row_count b ≤ 1024

pub counts-told : (b : List ℕ) → has_bad_counts b ≡ false → CountsHold b
counts-told b e = grind (arith, common_steps)

-- the handler is none or a scheme of the table
pub handler-inside : (b : List ℕ) → Whole b → handler_in b ≤ scheme_count b
handler-inside b w = grind (arith, common_steps)

-- ---- what stands at each number
module _ (b : List ℕ) where
  pub labels-count : length (table_image b).labels ≡ last_label b + 1
  unfolding table_image
  labels-count = length-map-range (label_on b) 0 (last_label b + 1)

  pub entries-count : length (table_image b).entries ≡ scheme_count b
  unfolding table_image
  entries-count = length-map-range (entry_in b) 1 (scheme_count b)

  pub handler-at : (table_image b).handler ≡ handler_in b
  unfolding table_image
  handler-at = refl

  pub label-on : (l : ℕ) → l ≤ last_label b → table_label b l ≡ label_on b l
  label-on l h = cond-false (nat_lt (last_label b) l) no_label (label_on b l) (le-ltb (last_label b) l h)

  pub label-above : (l : ℕ) → last_label b < l → table_label b l ≡ no_label
  label-above l h = cond-true (nat_lt (last_label b) l) no_label (label_on b l) (lt-ltb (last_label b) l h)

  pub label-at : (l : ℕ) → slice_index_or (table_image b).labels l no_label ≡ table_label b l
  unfolding table_image
  label-at l = grind (arith, common_steps, get_or-eq_default, split, get_or-map-range, length-map-range, zero-add, label-on, label-above)

  pub entry-at : has_bad_counts b ≡ false → (h : ℕ) → h ≤ scheme_count b → slice_index (table_image b).entries (h - 1) ≡ entry_of b h
  unfolding table_image
  entry-at e h k = grind (arith, common_steps, get_or-map-range, counts-told)
