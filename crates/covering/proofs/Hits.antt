-- Where 23 does not apply, each label from 2 up has just one row for each word and bit, and the machine takes it.
use Rattle.std.proofs.Common.{if◌then◌else◌, ℕ, suc, ◌-◌, ◌%◌, ◌≤◌, ◌<◌, Bool, true, false, not, ◌≡◌, refl, sym, ◌∙◌, List, [], ◌==◌, slice_index_or, filter}
use Rattle.std.proofs.Common.{◌∷◌, arith, length, eqb-true, eq-eqb}
use Rattle.std.proofs.lemmas.Grind.{common_steps}
use Rattle.std.specs.List.{AllByRecursion}
use Rattle.words.proofs.lists.Tests.{not-false, bit-low}
use Rattle.words.proofs.lists.Searches.{any-false, any-none}
use Rattle.words.proofs.lists.Ranges.{filter-yes, filter-no}
use Rattle.words.proofs.lists.Filters.{filter-none, one-passes}
use Rattle.words.proofs.lists.Joins.{all-places}
use Rattle.image.specs.Image.{Image, Row, no_row}
use Rattle.image.specs.inner.Sound.{SoundImage}
use Rattle.rows.specs.Rows.{is_candidate, no_choice, best_row, found, lead_of}
use Rattle.rows.proofs.ChoiceLaws.{best-nothing, best-own, best-other}
use Rattle.covering.specs.Matched.{hits, is_uneven_word, is_uneven_label, is_uneven}
use Rattle.covering.proofs.Together.{matches-low}

-- ---- the only row that matches
module _ (l w b : ℕ) where
  none-own : (rs : List Row) → filter (is_candidate l w b) rs ≡ [] → (k : ℕ) → best_row l w b k rs ≡ no_choice
  none-own [] e k = search (arith, best-nothing)
  none-own (r ∷ rs) e k = search (arith, none-own rs, filter-yes, filter-no, best-other)

  -- it is the one that a label takes; nothing else is used of how a label chooses among its rows
  pub only-row : (s : Row) (k : ℕ) (rs : List Row) → filter (is_candidate l w b) rs ≡ s ∷ [] → lead_of (best_row l w b k rs) ≡ found s.next
  only-row s k [] e = grind (arith, common_steps, filter-none)
  only-row s k (r ∷ rs) e = grind (arith, common_steps, only-row s (suc k) rs, filter-yes, best-own, filter-no, best-other, none-own)

  -- by its number
  pub record Hit (s : Row) (rs : List Row) : Type 0 where
    pub place : ℕ
    pub inside : place < length rs
    pub is : slice_index_or rs place no_row ≡ s
    pub holding : is_candidate l w b (slice_index_or rs place no_row) ≡ true

  pub the-place : (s : Row) (rs : List Row) → filter (is_candidate l w b) rs ≡ s ∷ [] → Hit s rs
  the-place s [] e = grind (arith, common_steps, filter-none)
  the-place s (r ∷ rs) e = go (is_candidate l w b r) refl (the-place s rs)
    where
      go : (t : Bool) → is_candidate l w b r ≡ t → (filter (is_candidate l w b) rs ≡ s ∷ [] → Hit s rs) → Hit s (r ∷ rs)
      go true q ih =
          let p : r ∷ filter (is_candidate l w b) rs ≡ s ∷ [] = sym (filter-yes (is_candidate l w b) r rs q) ∙ e in
          record { place = 0; inside = omega arith; is = cc; holding = q }
      go false q ih =
          let x : Hit s rs = ih (sym (filter-no (is_candidate l w b) r rs q) ∙ e) in
          record { place = suc x.place; inside = omega (arith, x.inside); is = x.is; holding = x.holding }

  -- a row that matches is the only one
  pub hit-is : (s : Row) (rs : List Row) → filter (is_candidate l w b) rs ≡ s ∷ [] → (j : ℕ)
      → j < length rs → is_candidate l w b (slice_index_or rs j no_row) ≡ true
      → slice_index_or rs j no_row ≡ s
  hit-is s rs e j h t = grind (arith, the-place s rs e, one-passes (is_candidate l w b) no_row rs)

-- words above 16 bits are as their low 16 bits
module _ (l w b : ℕ) where
  low-alike : (r : Row) → r.care < 65536 → is_candidate l w b r ≡ is_candidate l (w % 65536) b r
  low-alike r h = grind (arith, matches-low w b r h)

  pub low-hits : (rs : List Row) → AllByRecursion (λ r. r.care < 65536) rs → filter (is_candidate l w b) rs ≡ filter (is_candidate l (w % 65536) b) rs
  low-hits [] a = grind (arith, common_steps, filter-none)
  low-hits (r ∷ rs) a = grind (arith, common_steps, low-hits rs a.1, filter-yes, filter-no, low-alike)

pub all-cares : (i : Image) → SoundImage i → AllByRecursion (λ r. r.care < 65536) i.rows
all-cares i S = all-places (λ r. r.care < 65536) no_row i.rows (λ k h. (S.each k h).cares)

-- ---- 23 does not apply: every word and bit, of any size, match one row of each label from 2 up
abbrev pub OneRow : Image → Type 0
OneRow i = (l w : ℕ) (b : Bool) → 2 ≤ l → l < length i.labels → hits i l w (if b then 1 else 0) ≡ 1

module _ (i : Image) where
  pub label-low : (l : ℕ) → is_uneven_label i l ≡ false → (w b : ℕ) → w < 65536 → b < 2 → hits i l w b ≡ 1
  label-low l e w b hw hb =
      let y : is_uneven_word i l w ≡ false = any-false (is_uneven_word i l) 0 65536 e w (omega arith) (omega arith) in
      grind (arith, eqb-true, not-false, any-false (λ b. not (hits i l w b == 1)) 0 2 y b)

  pub label-of : (l : ℕ) → ((w b : ℕ) → w < 65536 → b < 2 → hits i l w b ≡ 1) → is_uneven_label i l ≡ false
  label-of l h = grind (arith, common_steps, any-none, eq-eqb)

  pub even-low : is_uneven i ≡ false → (l w b : ℕ) → 2 ≤ l → l < length i.labels → w < 65536 → b < 2 → hits i l w b ≡ 1
  unfolding is_uneven
  even-low e l w b low high = label-low l (any-false (is_uneven_label i) 2 (length i.labels - 2) e l low (omega arith)) w b

  pub even-of : ((l w b : ℕ) → 2 ≤ l → l < length i.labels → w < 65536 → b < 2 → hits i l w b ≡ 1) → is_uneven i ≡ false
  unfolding is_uneven
  even-of h = grind (arith, common_steps, any-none, label-of)

  -- the row itself
  pub the-row : OneRow i → (l w : ℕ) (b : Bool) → 2 ≤ l → l < length i.labels
      → (s : Row) × (filter (is_candidate l w (if b then 1 else 0)) i.rows ≡ s ∷ [])
  the-row one l w b low high = only (filter (is_candidate l w (if b then 1 else 0)) i.rows) (one l w b low high)
    where
      only : (xs : List Row) → length xs ≡ 1 → (s : Row) × (xs ≡ s ∷ [])
      only [] e = absurd (omega arith)
      only (x ∷ []) e = (x, refl)
      only (x ∷ y ∷ ys) e = absurd (omega arith)

  pub one-row : SoundImage i → is_uneven i ≡ false → OneRow i
  one-row S e l w b low high = grind (arith, common_steps, bit-low, low-hits, all-cares, even-low)
