-- The rows of a table: the one that a label takes of all is the one of its own, and where it leads.
use Rattle.std.proofs.Common.{ℕ, zero, suc, ◌+◌, ◌*◌, ◌-◌, ◌≤◌, ◌<◌, ◌≡◌, refl, sym, ◌∙◌, ap, ap₂, List, map, add-zero, arith, length, slice_index, slice_index_or, flat_map}
use Rattle.std.proofs.Common.{length-append, lt-ltb, le-ltb, ne_eqb}
use Rattle.std.proofs.Math.Decide.{ℕ_discrete}
use Rattle.std.proofs.lemmas.Grind.{common_steps}
use Rattle.words.specs.lists.Numbers.{range}
use Rattle.std.specs.List.{AllByRecursion}
use Rattle.std.proofs.lemmas.Bool.{cond-true, cond-false}
use Rattle.words.proofs.lists.Ranges.{length-map-range, get_or-map-range}
use Rattle.words.proofs.lists.Joins.{all-every, all-map, all-concat, concat-cons}
use Rattle.text.specs.frames.Frame.{size, field}
use Rattle.image.specs.Image.{Row, no_row}
use Rattle.image.specs.Decode.{last_label}
use Rattle.tables.specs.Table.{table_label, first_on, end_on, row_on, rows_on, table_image}
use Rattle.rows.specs.Rows.{Choice, row, no_choice, better_choice, best_row, found, lead_of, next_of}
use Rattle.rows.specs.inner.Search.{found_at}
use Rattle.rows.proofs.ChoiceLaws.{best-nothing, best-other, better-none, best-joined, moved_by, best-moved, leads-moved, any-bit}
use Rattle.rows.proofs.BestRows.{leads-one}

-- how many rows of the table stand before those of label l
abbrev pub rows_before : List ℕ → ℕ → ℕ
rows_before b l = length (flat_map (rows_on b) (range 2 (l - 2)))

module _ (b : List ℕ) (l w bit : ℕ) where
  -- ---- rows of another label
  others-none : (m : ℕ) → (m ≡ l → ⊥) → (k i n : ℕ) → best_row l w bit k (map (row_on b m) (range i n)) ≡ no_choice
  others-none m h k i zero = grind (arith, common_steps, best-nothing)
  others-none m h k i (suc n) = grind (arith, common_steps, others-none m h (suc k) (suc i) n, best-other, ne_eqb)

  -- ---- rows of n labels from i on, the first of them numbered k
  abbrev over : ℕ → ℕ → ℕ → Choice
  over k i n = best_row l w bit k (flat_map (rows_on b) (range i n))

  over-more : (k i n : ℕ) → over k i (suc n) ≡ better_choice (best_row l w bit k (rows_on b i)) (over (k + length (rows_on b i)) (suc i) n)
  over-more k i n = grind (arith, common_steps, concat-cons, best-joined)

  over-other : (k i n : ℕ) → (i ≡ l → ⊥) → over k i (suc n) ≡ over (k + length (rows_on b i)) (suc i) n
  over-other k i n h = grind (arith, common_steps, others-none, over-more)

  over-none : (k i n : ℕ) → ((m : ℕ) → i ≤ m → m < i + n → m ≡ l → ⊥) → over k i n ≡ no_choice
  over-none k i zero h = best-nothing l w bit k
  over-none k i (suc n) h =
      over-other k i n (h i (omega arith) (omega arith))
      ∙ over-none (k + length (rows_on b i)) (suc i) n (λ m p q. h m (omega arith) (omega arith))

  -- how many stand from label i on before those of label l
  abbrev before : ℕ → ℕ
  before i = length (flat_map (rows_on b) (range i (l - i)))

  before-more : (i : ℕ) → i < l → length (rows_on b i) + before (suc i) ≡ before i
  before-more i h =
      sym (ap (λ (n : ℕ). length (flat_map (rows_on b) (range i n))) (let e : l - i ≡ suc (l - suc i) = omega arith in e)
      ∙ ap (λ (rs : List Row). length rs) (concat-cons (rows_on b) i (range (suc i) (l - suc i)))
      ∙ length-append (rows_on b i) (flat_map (rows_on b) (range (suc i) (l - suc i))))

  before-all : (i : ℕ) → i ≡ l → before i ≡ 0
  before-all i h = ap (λ (n : ℕ). length (flat_map (rows_on b) (range i n))) (let e : l - i ≡ 0 = omega arith in e)

  over-own : (k i n : ℕ) → i ≤ l → l < i + n → over k i n ≡ best_row l w bit (k + before i) (rows_on b l)
  over-own k i zero p q = absurd (omega arith)
  over-own k i (suc n) p q = go (ℕ_discrete i l) (over-own (k + length (rows_on b i)) (suc i) n)
    where
      on : ℕ
      on = k + length (rows_on b i)

      go : Dec (i ≡ l) → (suc i ≤ l → l < suc i + n → over on (suc i) n ≡ best_row l w bit (on + before (suc i)) (rows_on b l))
          → over k i (suc n) ≡ best_row l w bit (k + before i) (rows_on b l)
      go (yes e) ih =
          over-more k i n
          ∙ ap (better_choice (best_row l w bit k (rows_on b i))) (over-none on (suc i) n (λ m u v z. omega arith))
          ∙ better-none (best_row l w bit k (rows_on b i))
          ∙ ap₂ (λ (j m : ℕ). best_row l w bit j (rows_on b m)) (let z : k ≡ k + before i = omega (arith, before-all i e) in z) e
      go (no e) ih =
          over-other k i n e ∙ ih (omega arith) (omega arith)
          ∙ ap (λ (j : ℕ). best_row l w bit j (rows_on b l))
          (let z : on + before (suc i) ≡ k + before i = omega (arith, before-more i (omega arith)) in z)

  pub row-own : 2 ≤ l → l ≤ last_label b → best_row l w bit 0 (table_image b).rows ≡ best_row l w bit (rows_before b l) (rows_on b l)
  unfolding table_image
  row-own h g = grind (arith, common_steps, over-own)

  pub row-none : l < 2 → best_row l w bit 0 (table_image b).rows ≡ no_choice
  unfolding table_image
  row-none h = over-none 0 2 (last_label b - 1) (λ m p q z. omega arith)

  pub row-above : last_label b < l → best_row l w bit 0 (table_image b).rows ≡ no_choice
  unfolding table_image
  row-above h = over-none 0 2 (last_label b - 1) (λ m p q z. omega arith)

  -- ---- where the row leads that is taken of those of label l
  from-any : (m : ℕ) → lead_of (best_row l w bit m (rows_on b l)) ≡ lead_of (best_row l w bit 0 (rows_on b l))
  from-any m =
      ap (λ (k : ℕ). lead_of (best_row l w bit k (rows_on b l))) (sym (add-zero m))
      ∙ ap lead_of (best-moved l w bit m 0 (rows_on b l)) ∙ leads-moved m (best_row l w bit 0 (rows_on b l))

  pub own-leads : 2 ≤ l → l ≤ last_label b
      → lead_of (best_row l w bit (first_on b l) (rows_on b l)) ≡ lead_of (best_row l w bit 0 (table_image b).rows)
  own-leads h g = from-any (first_on b l) ∙ sym (from-any (rows_before b l)) ∙ ap lead_of (sym (row-own h g))

  -- ---- what a search among the frames of label l chose, in frame f or none
  module _ (low : 2 ≤ l) (high : l ≤ last_label b) (f : ℕ) (e : found_at b l f ≡ best_row l w bit (first_on b l) (rows_on b l)) where
    counted : (n : ℕ) → best_row l w bit n (rows_on b l) ≡ moved_by n (best_row l w bit 0 (rows_on b l))
    counted n = ap (λ (k : ℕ). best_row l w bit k (rows_on b l)) (sym (add-zero n)) ∙ best-moved l w bit n 0 (rows_on b l)

    moved-twice : (m n : ℕ) (y : Choice) → moved_by m (moved_by n y) ≡ moved_by n (moved_by m y)
    moved-twice m n no_choice = refl
    moved-twice m n (row k r) = ap (λ (j : ℕ). row j r) (omega arith)

    -- with its number: a frame counts from the label's first frame as its row does from the label's first row
    pub found-number : moved_by (rows_before b l) (found_at b l f) ≡ moved_by (first_on b l) (best_row l w bit 0 (table_image b).rows)
    found-number = grind (arith, common_steps, moved_by, row-own, counted, moved-twice)

    found-leads : lead_of (found_at b l f) ≡ lead_of (best_row l w bit 0 (table_image b).rows)
    found-leads = grind (arith, common_steps, leads-moved, found-number)

    -- and where it leads
    pub next-found : (n : ℕ) → n ≡ field b f 7 → f < size b → n ≡ next_of (lead_of (best_row l w bit 0 (table_image b).rows))
    next-found n q h = grind (arith, common_steps, lt-ltb, cond-true, found-leads)

    pub next-none : size b ≤ f → 256 ≡ next_of (lead_of (best_row l w bit 0 (table_image b).rows))
    next-none h = grind (arith, common_steps, le-ltb, cond-false, found-leads)

-- ---- no row of a label that calls no function looks at the bit
module _ (b : List ℕ) (l w p q : ℕ) (n : (table_label b l).kind ≡ 2 → ⊥) where
  free-bit : (k : ℕ) → k < length (rows_on b l) → (slice_index_or (rows_on b l) k no_row).bit ≡ 2
  free-bit k h = grind (arith, common_steps, length-map-range, ne_eqb, get_or-map-range, cond-false)

  pub any-row : 2 ≤ l → l ≤ last_label b → best_row l w p 0 (table_image b).rows ≡ best_row l w q 0 (table_image b).rows
  any-row h g = row-own b l w p h g ∙ any-bit l w p q (rows_before b l) (rows_on b l) (λ k m e. free-bit k m) ∙ sym (row-own b l w q h g)

-- ---- where rows lead
pub next-small : (b : List ℕ) → ((k : ℕ) → slice_index b k < 256) → (l w bit n : ℕ)
    → lead_of (best_row l w bit 0 (table_image b).rows) ≡ found n → n < 256
unfolding table_image
next-small b bytes l w bit n e =
    leads-one l w bit (λ n. n < 256) (table_image b).rows
    (all-concat (λ (r : Row). r.next < 256) (rows_on b) (range 2 (last_label b - 1))
    (all-every (λ m. AllByRecursion (λ (r : Row). r.next < 256) (rows_on b m))
    (λ m. all-map (λ (r : Row). r.next < 256) (row_on b m) (range (first_on b m) (end_on b m - first_on b m))
    (all-every (λ f. (row_on b m f).next < 256) (λ f. bytes (10 * f + 7)) (range (first_on b m) (end_on b m - first_on b m))))
    (range 2 (last_label b - 1))))
    n e
