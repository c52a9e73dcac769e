-- The conditions against the rows of a label, among all rows of a table:
-- only its own rows have any, they stand in its frames, and each has its values within its care mask.
use Rattle.std.proofs.Common.{if◌then◌else◌, ℕ, zero, suc, ◌+◌, ◌-◌, ◌^◌, ◌≤◌, ◌<◌, Bool, ◌&&◌, ◌||◌, not, ◌≡◌, refl, sym, ◌∙◌, ap, ap₂, ◌==◌, flat_map}
use Rattle.std.proofs.Common.{subst, List, [], ◌∷◌, ◌++◌, map, arith, bit_and, bit_or, eq-eqb, ne_eqb}
use Rattle.std.proofs.Math.Decide.{ℕ_discrete}
use Rattle.std.specs.Int.Bits.{or_zero_l}
use Rattle.std.proofs.lemmas.Grind.{common_steps}
use Rattle.words.specs.lists.Numbers.{range, lowest}
use Rattle.std.specs.List.{AllByRecursion}
use Rattle.std.proofs.lemmas.Bool.{cond-false}
use Rattle.words.proofs.lists.Ranges.{length-map-range, get_or-map-range}
use Rattle.words.proofs.lists.Joins.{all-at, all-places, concat-cons}
use Rattle.words.specs.bits.Word.{is_agreeing}
use Rattle.text.specs.frames.Frame.{field, pair_at}
use Rattle.image.specs.Image.{Row, no_row}
use Rattle.image.specs.Decode.{last_label}
use Rattle.image.specs.inner.Sound.{SoundImage}
use Rattle.tables.specs.Table.{table_label, first_on, end_on, row_on, rows_on, table_image}
use Rattle.tables.proofs.OwnRows.{own-alone}
use Rattle.rows.specs.inner.Search.{Deciding}
use Rattle.rows.proofs.SearchCases.{own-bit}
use Rattle.cause.specs.Cause.{is_differing, mask_against, mask_against_all}
use Rattle.cause.specs.inner.CauseContracts.{ValuesWithin, mask_against_from}

-- ---- rows of other labels have none
module _ (b : List ℕ) (l w bit : ℕ) where
  abbrev all : List Row → ℕ
  all = mask_against_all l w bit

  other-none : (r : Row) → (r.from ≡ l → ⊥) → mask_against l w bit r ≡ 0
  other-none r h = grind (arith, common_steps)

  others-first : (m : ℕ) → (m ≡ l → ⊥) → (i n : ℕ) (rs : List Row) → all (map (row_on b m) (range i n) ++ rs) ≡ all rs
  unfolding mask_against_all
  others-first m h i zero rs = refl
  others-first m h i (suc n) rs = ap₂ bit_or (other-none (row_on b m i) h) (others-first m h (suc i) n rs) ∙ or_zero_l (all rs)

  none-last : (xs ys : List Row) → all ys ≡ 0 → all (xs ++ ys) ≡ all xs
  unfolding mask_against_all
  none-last [] ys e = e
  none-last (x ∷ xs) ys e = ap (bit_or (mask_against l w bit x)) (none-last xs ys e)

  pub own-conditions : 2 ≤ l → l ≤ last_label b → mask_against_all l w bit (table_image b).rows ≡ mask_against_all l w bit (rows_on b l)
  unfolding mask_against_all
  own-conditions = own-alone b l all (λ m h rs. others-first m h (first_on b m) (end_on b m - first_on b m) rs) none-last

-- ---- one of its own rows, by its frame
module _ (b : List ℕ) (l w : ℕ) where
  abbrev kind : ℕ
  kind = (table_label b l).kind

  abbrev only : ℕ → ℕ
  only f = (row_on b l f).bit

  abbrev agreed : ℕ → Bool
  agreed f = is_agreeing w (pair_at b f 2) (pair_at b f 4)

  abbrev low : ℕ → ℕ
  low f = 2 ^ lowest (is_differing w (pair_at b f 2) (pair_at b f 4)) 0 16

  by-bit : (bit f : ℕ) → mask_against l w bit (row_on b l f) ≡ (if (only f == 2 || only f == bit) && not (agreed f) then low f else 0)
  by-bit bit f = ap (λ (t : Bool). if t && ((only f == 2 || only f == bit) && not (agreed f)) then low f else 0) (eq-eqb l l refl)

  -- no row of a label that calls no function looks at the bit
  module _ (n : kind ≡ 2 → ⊥) where
    free : (f : ℕ) → only f ≡ 2
    free f = cond-false (kind == 2) (field b f 6) 2 (ne_eqb kind 2 n)

    free-lets : (bit f : ℕ) → mask_against l w bit (row_on b l f) ≡ (if not (agreed f) then low f else 0)
    free-lets bit f = by-bit bit f ∙ ap (λ (k : ℕ). if (k == 2 || k == bit) && not (agreed f) then low f else 0) (free f)

    free-rows : (p q f n : ℕ) → mask_against_all l w p (map (row_on b l) (range f n))
        ≡ mask_against_all l w q (map (row_on b l) (range f n))
    unfolding mask_against_all
    free-rows p q f zero = refl
    free-rows p q f (suc n) = ap₂ bit_or (free-lets p f ∙ sym (free-lets q f)) (free-rows p q (suc f) n)

    pub any-conditions : (p q : ℕ) → 2 ≤ l → l ≤ last_label b → mask_against_all l w p (table_image b).rows
        ≡ mask_against_all l w q (table_image b).rows
    any-conditions p q h g = grind (arith, common_steps, own-conditions, free-rows)

  module _ (bit : ℕ) (x : Deciding b l bit) where
    frames-are : (f n : ℕ) → mask_against_from b w bit f n ≡ mask_against_all l w bit (map (row_on b l) (range f n))
    unfolding mask_against_from mask_against_all
    frames-are f zero = grind (arith, common_steps)
    frames-are f (suc n) = grind (arith, common_steps, frames-are (suc f) n, own-bit, by-bit)

    pub frame-conditions : 2 ≤ l → l ≤ last_label b
        → mask_against_from b w bit (first_on b l) (end_on b l - first_on b l) ≡ mask_against_all l w bit (table_image b).rows
    frame-conditions h g = frames-are (first_on b l) (end_on b l - first_on b l) ∙ sym (own-conditions b l w bit h g)

-- ---- on a sound image every row has its values within its care mask
all-split : (P : Row → Type 0) (xs ys : List Row) → AllByRecursion P (xs ++ ys) → AllByRecursion P xs × AllByRecursion P ys
all-split P [] ys a = (tt, a)
all-split P (x ∷ xs) ys (p, a) = let r = all-split P xs ys a in ((p, r.0), r.1)

module _ (b : List ℕ) (l : ℕ) where
  abbrev Within : Row → Type 0
  Within r = bit_and r.values r.care ≡ r.values

  own-within : (i n : ℕ) → i ≤ l → l < i + n → AllByRecursion Within (flat_map (rows_on b) (range i n)) → AllByRecursion Within (rows_on b l)
  own-within i zero p q a = absurd (omega arith)
  own-within i (suc n) p q a = go (ℕ_discrete i l) (own-within (suc i) n)
    where
      parts : AllByRecursion Within (rows_on b i) × AllByRecursion Within (flat_map (rows_on b) (range (suc i) n))
      parts = all-split Within (rows_on b i) (flat_map (rows_on b) (range (suc i) n))
          (subst (AllByRecursion Within) (concat-cons (rows_on b) i (range (suc i) n)) a)

      go : Dec (i ≡ l) → (suc i ≤ l → l < suc i + n → AllByRecursion Within (flat_map (rows_on b) (range (suc i) n)) → AllByRecursion Within (rows_on b l))
          → AllByRecursion Within (rows_on b l)
      go (yes e) ih = subst (λ (m : ℕ). AllByRecursion Within (rows_on b m)) e parts.0
      go (no e) ih = ih (omega arith) (omega arith) parts.1

  pub rows-kept : SoundImage (table_image b) → 2 ≤ l → l ≤ last_label b → (f : ℕ) → first_on b l ≤ f → f < end_on b l → ValuesWithin b f
  unfolding table_image
  rows-kept sound h g f p q =
      let first : ℕ = first_on b l in
      let count : ℕ = end_on b l - first in
      let own : AllByRecursion Within (rows_on b l) =
      own-within 2 (last_label b - 1) h (omega arith) (all-places Within no_row (table_image b).rows (λ k m. (sound.each k m).within)) in
      subst Within
      (get_or-map-range (row_on b l) no_row first count (f - first) (omega arith)
      ∙ ap (row_on b l) (let z : first + (f - first) ≡ f = omega arith in z))
      (all-at Within no_row (rows_on b l) own (f - first) (omega (arith, length-map-range (row_on b l) first count)))
