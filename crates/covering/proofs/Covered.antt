-- 23 by sizes says what 23 says: the words that the rows of a label match, counted word by word and row by row, are as many.
use Rattle.std.proofs.Common.{if◌then◌else◌, ℕ, ◌+◌, ◌-◌, ◌≤◌, ◌<◌, Bool, false, ◌&&◌, ◌||◌, ◌≡◌, ◌∙◌, ◌==◌, slice_index_or, filter}
use Rattle.std.proofs.Common.{inl, inr, List, [], ◌∷◌, arith, length, eqb-true, eq-eqb}
use Rattle.std.proofs.lemmas.Grind.{common_steps}
use Rattle.words.specs.lists.Numbers.{any, count, sum}
use Rattle.std.specs.List.{AllByRecursion}
use Rattle.words.proofs.lists.Tests.{cases, no_both, or-l, or-r, or-none, bit-low}
use Rattle.words.proofs.lists.Searches.{sum-shift, any-false, any-none}
use Rattle.words.proofs.lists.Counts.{count-alike, count-none}
use Rattle.words.proofs.lists.Ranges.{filter-yes, filter-no}
use Rattle.words.proofs.lists.Filters.{filter-none, one-passes, few-pass}
use Rattle.words.proofs.lists.Sums.{sum-suc, sum-none, sum-zero, sum-ones, sum-full, sum-add}
use Rattle.words.proofs.lists.Joins.{all-places}
use Rattle.words.specs.bits.Word.{is_agreeing}
use Rattle.image.specs.Image.{Image, Row, no_row, nth_row}
use Rattle.image.specs.inner.Sound.{SoundRow, SoundImage}
use Rattle.rows.specs.Rows.{is_candidate}
use Rattle.covering.specs.Matched.{hits, is_uneven, is_together}
use Rattle.covering.specs.inner.Sizes.{is_overlap, has_overlap, words_matched, covered_count, has_gap, is_uneven_by_sizes}
use Rattle.covering.specs.Common.{Common}
use Rattle.covering.proofs.Together.{common-together, together-common, together-turned}
use Rattle.covering.proofs.Hits.{even-low, even-of}
use Rattle.covering.proofs.WordCount.{words-count}
use Rattle.std.proofs.lemmas.Bool.Decides.{nat_tests}

-- ---- words and rows
module _ (l b : ℕ) where
  abbrev asks : Row → Bool
  asks r = r.from == l && (r.bit == 2 || r.bit == b)

  abbrev kept : List Row → ℕ → ℕ
  kept rs w = length (filter (is_candidate l w b) rs)

  row-words : {i : Image} (r : Row) → SoundRow i r → count (λ w. is_candidate l w b r) 0 65536 ≡ words_matched l b r
  row-words r s = elim (cases (asks r)) [
    | inl e ↦
        count-alike (λ w. is_agreeing w r.care r.values) (λ w. is_candidate l w b r) 0 65536 (λ w m k. grind (arith, nat_tests))
        ∙ words-count 16 r.care r.values s.cares s.within ∙ grind (arith, nat_tests)
    | inr e ↦ count-none (λ w. is_candidate l w b r) 0 65536 (λ w m k. grind (arith, nat_tests)) ∙ grind (arith, nat_tests)
  ]

  kept-more : (r : Row) (rs : List Row) (w : ℕ) → kept (r ∷ rs) w ≡ (if is_candidate l w b r then 1 else 0) + kept rs w
  kept-more r rs w = grind (arith, common_steps, filter-yes, filter-no)

  -- word by word, row by row
  all-words : (i : Image) (rs : List Row) → AllByRecursion (SoundRow i) rs
      → sum (kept rs) 0 65536 ≡ sum (λ k. words_matched l b (slice_index_or rs k no_row)) 0 (length rs)
  all-words i [] a =
      grind (arith, common_steps, sum-zero (kept []) 0 65536, filter-none, sum-none)
  all-words i (r ∷ rs) a =
      let each : ℕ → ℕ = λ k. words_matched l b (slice_index_or (r ∷ rs) k no_row) in
      let here = row-words {i = i} r a.0 in
      grind (arith, sum-add (λ w. is_candidate l w b r) (kept (r ∷ rs)) (kept rs) (kept-more r rs) 0 65536, here, all-words i rs a.1, sum-suc each 0 (length rs), sum-shift each 0 (length rs))

module _ (i : Image) (S : SoundImage i) where
  pub sound-rows : AllByRecursion (SoundRow i) i.rows
  sound-rows = all-places (SoundRow i) no_row i.rows S.each

  words-are : (l b : ℕ) → sum (λ w. hits i l w b) 0 65536 ≡ covered_count i l b
  unfolding covered_count
  words-are l b = all-words l b i i.rows sound-rows

  module _ (l : ℕ) where
    -- ---- where every word and bit match one row of label l
    module _ (one : (w b : ℕ) → w < 65536 → b < 2 → hits i l w b ≡ 1) where
      -- no two of its rows can match together
      apart-by : (j k : ℕ) → j < length i.rows → k < length i.rows → (j ≡ k → ⊥) → (nth_row i j).from ≡ l → (nth_row i k).from ≡ l
          → Common (nth_row i j) (nth_row i k) → ⊥
      apart-by j k hj hk n p q C =
          let b : ℕ = (if C.bit then 1 else 0) in
          n (one-passes (is_candidate l C.word b) no_row i.rows (omega (arith, one C.word b C.low (bit-low C.bit))) j k hj hk
          (grind (arith, common_steps, C.first)) (grind (arith, common_steps, C.second)))

      pub no-pair : (j k : ℕ) → j < length i.rows → k < length i.rows → (j ≡ k → ⊥) → (nth_row i j).from ≡ l → (nth_row i k).from ≡ l
          → is_together (nth_row i j) (nth_row i k) ≡ false
      no-pair j k hj hk n p q = grind (arith, cases (is_together (nth_row i j) (nth_row i k)), apart-by j k hj hk n p q, together-common (nth_row i j) (nth_row i k) (S.each j hj) (S.each k hk))

      pub full : (b : ℕ) → b < 2 → covered_count i l b ≡ 65536
      full b h = grind (arith, words-are l b, sum-ones (λ w. hits i l w b) 0 65536, one)

    -- ---- where no two rows of label l can match together
    module _ (apart : (j k : ℕ) → j < length i.rows → k < j → (nth_row i j).from ≡ l → (nth_row i k).from ≡ l
        → is_together (nth_row i j) (nth_row i k) ≡ false) where
      few-hits : (w b : ℕ) → hits i l w b ≤ 1
      few-hits w b = few-pass (is_candidate l w b) no_row i.rows (λ j k hj hk p q.
          grind (arith, nat_tests, common-together (nth_row i j) (nth_row i k) w b, S.each j hj, S.each k, apart j k hj hk))

      -- and where their sizes sum up to all words
      one-hit : (b : ℕ) → covered_count i l b ≡ 65536 → (w : ℕ) → w < 65536 → hits i l w b ≡ 1
      one-hit b g w h = sum-full (λ w. hits i l w b) 0 65536 (λ w a k. few-hits w b) (words-are l b ∙ g) w (omega arith) (omega arith)

      pub one-hits : covered_count i l 0 ≡ 65536 → covered_count i l 1 ≡ 65536 → (w b : ℕ) → w < 65536 → b < 2 → hits i l w b ≡ 1
      one-hits g₀ g₁ w x3 hw hb = grind (arith, nat_tests, one-hit)

  -- ---- all labels
  no-overlap : is_uneven i ≡ false → (j k : ℕ) → j < length i.rows → k < j → is_overlap (nth_row i k) (nth_row i j) ≡ false
  no-overlap e j k hj hk = grind (arith, common_steps, eqb-true, even-low, no-pair)

  no-gaps : is_uneven i ≡ false → (l : ℕ) → 2 ≤ l → l < length i.labels → has_gap i l ≡ false
  no-gaps e l low high = grind (arith, common_steps, or-none, even-low, eq-eqb, full)

  sizes-even : is_uneven i ≡ false → is_uneven_by_sizes i ≡ false
  unfolding is_uneven_by_sizes has_overlap
  sizes-even e = grind (arith, common_steps, any-none, or-none, no-overlap, no-gaps)

  even-sizes : is_uneven_by_sizes i ≡ false → is_uneven i ≡ false
  unfolding is_uneven_by_sizes has_overlap
  even-sizes e = even-of i (λ l w b low high hw hb.
      let x : Bool = has_overlap i in
      let y : Bool = any (has_gap i) 2 (length i.labels - 2) in
      let g : has_gap i l ≡ false = any-false (has_gap i) 2 (length i.labels - 2) (or-r x y e) l low (omega arith) in
      one-hits l (λ j k hj hk p q.
      let u : any (λ k. is_overlap (nth_row i k) (nth_row i j)) 0 j ≡ false =
      any-false (λ j. any (λ k. is_overlap (nth_row i k) (nth_row i j)) 0 j) 0 (length i.rows) (or-l x y e) j (omega arith) (omega arith) in
      let v : is_overlap (nth_row i k) (nth_row i j) ≡ false =
      any-false (λ k. is_overlap (nth_row i k) (nth_row i j)) 0 j u k (omega arith) (omega arith) in
      grind (arith, eq-eqb, together-turned (nth_row i k) (nth_row i j), v))
      (grind (arith, eqb-true, g)) (grind (arith, eqb-true, g)) w b hw hb)

  -- 23 is decided by the sizes
  pub sizes-decide : is_uneven_by_sizes i ≡ is_uneven i
  sizes-decide = grind (arith, common_steps, no_both, sizes-even, even-sizes)
