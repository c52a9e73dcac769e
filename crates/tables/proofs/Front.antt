-- Only the bytes of the frames that the header counts say which image a table holds: bytes behind them are no part of it.
use Rattle.std.proofs.Common.{ℕ, zero, suc, ◌+◌, ◌*◌, ◌-◌, ◌≤◌, ◌<◌, min, false, ◌&&◌, ◌||◌, not, ◌≡◌, ◌∙◌, ap, ap₂, List, map}
use Rattle.std.proofs.Common.{arith, get_or-take, le-ltb, nat_lt, ◌==◌, slice_index, flat_map}
use Rattle.std.proofs.lemmas.Grind.{common_steps}
use Rattle.words.specs.lists.Numbers.{range}
use Rattle.words.proofs.lists.Joins.{concat-alike}
use Rattle.text.specs.frames.Frame.{field, pair_at}
use Rattle.std.proofs.lemmas.Bool.{cond-false}
use Rattle.image.specs.Decode.{scheme_count, last_label, row_count, handler_in, labels_from, entry_in}
use Rattle.image.specs.Check.{has_bad_counts, has_bad_handler}
use Rattle.tables.specs.Table.{table_end, is_bad_table, label_on, table_label, noted_in, first_on, end_on, row_on, rows_on, table_image}
use Rattle.tables.specs.inner.Asked.{front}
use Rattle.tables.proofs.RangeLaws.{map-alike}

-- the rows of a label end within the table
pub end-inside : (b : List ℕ) (l : ℕ) → end_on b l ≤ table_end b
end-inside b l = omega arith

-- the handler and H decide whether the handler is good
pub handler-alike : (b c : List ℕ) → handler_in c ≡ handler_in b → scheme_count c ≡ scheme_count b → has_bad_handler c ≡ has_bad_handler b
handler-alike b c = ap₂ (λ (h n : ℕ). not (h == 0) && (nat_lt h 2 || nat_lt n h))

-- and H, M and R whether the counts are
pub counts-alike : (b c : List ℕ) → scheme_count c ≡ scheme_count b → last_label c ≡ last_label b
    → row_count c ≡ row_count b → has_bad_counts c ≡ has_bad_counts b
counts-alike b c schemes last rows = grind (arith, common_steps)

module _ (b c : List ℕ) (same : (k : ℕ) → k < 10 * table_end b → slice_index c k ≡ slice_index b k) where
  field-same : (f k : ℕ) → f < table_end b → k < 10 → field c f k ≡ field b f k
  field-same f k h g = same (10 * f + k) (omega arith)

  pair-same : (f k : ℕ) → f < table_end b → k < 9 → pair_at c f k ≡ pair_at b f k
  pair-same f k h g = ap₂ (λ (x y : ℕ). x * 256 + y) (field-same f k h (omega arith)) (field-same f (k + 1) h (omega arith))

  -- ---- the header
  pub schemes-same : scheme_count c ≡ scheme_count b
  schemes-same = field-same 0 1 (omega arith) (omega arith)

  pub last-same : last_label c ≡ last_label b
  last-same = field-same 0 2 (omega arith) (omega arith)

  rows-same : row_count c ≡ row_count b
  rows-same = pair-same 0 3 (omega arith) (omega arith)

  handler-same : handler_in c ≡ handler_in b
  handler-same = field-same 0 5 (omega arith) (omega arith)

  pub end-same : table_end c ≡ table_end b
  end-same = omega (arith, schemes-same, last-same, rows-same)

  pub counts-same : has_bad_counts c ≡ has_bad_counts b
  counts-same = counts-alike b c schemes-same last-same rows-same

  pub bad-handler-same : has_bad_handler c ≡ has_bad_handler b
  bad-handler-same = handler-alike b c handler-same schemes-same

  -- ---- one label
  label-field : (l k : ℕ) → l ≤ last_label b → k < 10 → field c (labels_from c + l) k ≡ field b (labels_from b + l) k
  label-field l k h g = grind (arith, common_steps)

  label-same : (l : ℕ) → l ≤ last_label b → label_on c l ≡ label_on b l
  label-same zero h = grind (arith, common_steps)
  label-same (suc zero) h = grind (arith, common_steps)
  label-same (suc (suc l)) h = grind (arith, common_steps, schemes-same, label-field)

  kind-same : (l : ℕ) → l ≤ last_label b → (table_label c l).kind ≡ (table_label b l).kind
  kind-same l h = grind (arith, common_steps, le-ltb, cond-false, last-same, label-same)

  -- ---- the rows of one label
  noted-same : (l : ℕ) → l ≤ last_label b → noted_in c l ≡ noted_in b l
  noted-same l h = ap₂ (λ (x y : ℕ). x + y * 256) (label-field l 0 h (omega arith)) (label-field l 1 h (omega arith))

  end-on-same : (l : ℕ) → l ≤ last_label b → end_on c l ≡ end_on b l
  end-on-same l h = ap₂ (λ (n e : ℕ). min n e) (noted-same l h) end-same

  row-same : (l f : ℕ) → l ≤ last_label b → f < table_end b → row_on c l f ≡ row_on b l f
  row-same l f g h = grind (arith, common_steps, field-same, pair-same, kind-same)

  rows-on-same : (l : ℕ) → l ≤ last_label b → rows_on c l ≡ rows_on b l
  rows-on-same l h =
      ap₂ (λ (f e : ℕ). map (row_on c l) (range f (e - f))) (noted-same (l - 1) (omega arith)) (end-on-same l h)
      ∙ map-alike (row_on c l) (row_on b l) (first_on b l) (end_on b l - first_on b l)
      (λ f p q. row-same l f h (omega (arith, end-inside b l)))

  pub alike-image : table_image c ≡ table_image b
  unfolding table_image
  alike-image =
      let e : map (entry_in c) (range 1 (scheme_count c)) ≡ map (entry_in b) (range 1 (scheme_count b)) =
      ap (λ (n : ℕ). map (entry_in c) (range 1 n)) schemes-same
      ∙ map-alike (entry_in c) (entry_in b) 1 (scheme_count b) (λ h p q. field-same h 2 (omega arith) (omega arith)) in
      let l : map (label_on c) (range 0 (last_label c + 1)) ≡ map (label_on b) (range 0 (last_label b + 1)) =
      ap (λ (n : ℕ). map (label_on c) (range 0 (n + 1))) last-same
      ∙ map-alike (label_on c) (label_on b) 0 (last_label b + 1) (λ k p q. label-same k (omega arith)) in
      let r : flat_map (rows_on c) (range 2 (last_label c - 1)) ≡ flat_map (rows_on b) (range 2 (last_label b - 1)) =
      ap (λ (n : ℕ). flat_map (rows_on c) (range 2 (n - 1))) last-same
      ∙ concat-alike (rows_on c) (rows_on b) 2 (last_label b - 1) (λ k p q. rows-on-same k (omega arith)) in
      λ j. record { handler = handler-same j; entries = e j; labels = l j; rows = r j }

-- ---- the front of a table
module _ (b : List ℕ) (good : is_bad_table b ≡ false) where
  front-at : (k : ℕ) → k < 10 * table_end b → slice_index (front b) k ≡ slice_index b k
  front-at k h = get_or-take (10 * table_end b) b k 0 h

  pub front-image : table_image (front b) ≡ table_image b
  front-image = alike-image b (front b) front-at
