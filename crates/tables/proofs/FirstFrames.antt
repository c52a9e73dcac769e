-- The frames at which the rows of each label of an accepted table begin:
-- they follow one another, and between two of them stand rows of one label.
use Rattle.std.proofs.Common.{ℕ, ◌+◌, ◌-◌, ◌≤◌, ◌<◌, ◌≡◌, ap, List, arith, leb-true, leb-false, le-leb, slice_index}
use borrow.Author.Tests.{lt-leb}
use Rattle.std.proofs.lemmas.Grind.{common_steps}
use Rattle.words.specs.lists.Numbers.{lowest}
use Rattle.words.proofs.lists.Searches.{lowest-hit, lowest-above, lowest-before, lowest-inside, lowest-from, lowest-none, lowest-here}
use Rattle.words.proofs.lists.Searches.{lowest-over}
use Rattle.words.proofs.lists.Tests.{split}
use Rattle.text.specs.frames.Frame.{size, field}
use Rattle.text.specs.frames.Verdict.{fine}
use Rattle.image.specs.Image.{nth_row}
use Rattle.image.specs.Decode.{last_label, rows_from, decoded_image}
use Rattle.image.specs.Check.{table_verdict}
use Rattle.image.specs.inner.Sound.{SoundRow}
use Rattle.image.proofs.Accepted.{rows-count, labels-count, counted, accepted-sound}
use Rattle.image.proofs.Rising.{from-read, rises-on}
use Rattle.tables.specs.Prepare.{is_row_reached, first_frame}
use Rattle.tables.proofs.Noted.{rows-inside}
use Rattle.tables.proofs.NotingCases.{below-more}

module _ (b : List ℕ) (ok : table_verdict b ≡ fine) where
  pub first-low : (l : ℕ) → rows_from b ≤ first_frame b l
  first-low l = lowest-above (is_row_reached b l) (rows_from b) (size b - rows_from b)

  pub first-inside : (l : ℕ) → first_frame b l ≤ size b
  first-inside l = lowest-inside (is_row_reached b l) (rows_from b) (size b) (rows-inside b ok)

  pub first-rises : (l : ℕ) → first_frame b l ≤ first_frame b (l + 1)
  first-rises l =
      let on : lowest (is_row_reached b (l + 1)) (first_frame b l) (size b - first_frame b l) ≡ first_frame b (l + 1) =
      lowest-from (is_row_reached b l) (rows_from b) (size b) (rows-inside b ok) (is_row_reached b (l + 1))
      (below-more b l (l + 1) (omega arith)) in
      omega (arith, lowest-above (is_row_reached b (l + 1)) (first_frame b l) (size b - first_frame b l))

  module _ (bytes : (k : ℕ) → slice_index b k < 256) where
    -- 13: a row leaves a label of 2 to M
    from-sound : (f : ℕ) → rows_from b ≤ f → f < size b → (2 ≤ field b f 1) × (field b f 1 ≤ last_label b)
    from-sound f h g =
        let s : SoundRow (decoded_image b) (nth_row (decoded_image b) (f - rows_from b)) =
        (accepted-sound b ok bytes).each (f - rows_from b) (omega (arith, (counted b ok).all, rows-count b)) in
        let is = from-read b (counted b ok).all f h g in
        (omega (arith, is, s.low), omega (arith, is, s.high, labels-count b))

    -- from the first frame of label l on no row leaves a lower label, and before it none leaves l or a higher one
    pub at-least : (l f : ℕ) → first_frame b l ≤ f → f < size b → l ≤ field b f 1
    at-least l f h g =
        let first : ℕ = first_frame b l in
        let hit : l ≤ field b first 1 =
        leb-true l (field b first 1) (lowest-hit (is_row_reached b l) (rows_from b) (size b - rows_from b)
        (omega (arith, rows-inside b ok))) in
        let up : field b first 1 ≤ field b (first + (f - first)) 1 =
        rises-on b (counted b ok).all (accepted-sound b ok bytes) first (f - first) (first-low l) (omega arith) in
        let e : field b (first + (f - first)) 1 ≡ field b f 1 = ap (λ (i : ℕ). field b i 1) (omega arith) in
        omega arith

    pub below : (l f : ℕ) → rows_from b ≤ f → f < first_frame b l → field b f 1 < l
    below l f h g = leb-false l (field b f 1) (lowest-before (is_row_reached b l) (rows_from b) (size b - rows_from b) f h g)

    -- frames from the first of label l up to that of the next label hold rows of label l
    pub first-own : (l f : ℕ) → first_frame b l ≤ f → f < first_frame b (l + 1) → field b f 1 ≡ l
    first-own l f h g =
        omega (arith, at-least l f h (omega (arith, first-inside (l + 1))), below (l + 1) f (omega (arith, first-low l)) g)

    -- no row leaves a label below 2, and none one above M
    pub first-two : first_frame b 2 ≡ rows_from b
    first-two = grind (arith, common_steps, lowest-here, le-leb, split, lowest-over, from-sound)

    pub first-last : first_frame b (last_label b + 1) ≡ size b
    first-last = grind (arith, common_steps, rows-inside, lowest-none, lt-leb, from-sound)
