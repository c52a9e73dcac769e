-- The rows of one label by their frames in a table: what the functions try of them is what 23 says of the label.
use Rattle.std.proofs.Common.{ℕ, ◌+◌, ◌-◌, ◌≤◌, ◌<◌, Bool, false, ◌||◌, not, ◌≡◌, sym, ◌∙◌, ap, ap₂, List, arith, ◌==◌}
use Rattle.std.proofs.Common.{length, eqb-true, eq-eqb, ne_eqb}
use Rattle.std.proofs.lemmas.Grind.{common_steps}
use Rattle.words.specs.lists.Numbers.{sum}
use Rattle.words.proofs.lists.Tests.{no_both, or-l, or-r}
use Rattle.words.proofs.lists.Searches.{any-false, any-none}
use Rattle.words.proofs.lists.Sums.{sum-same, sum-zero, sum-split, sum-move}
use Rattle.text.specs.frames.Frame.{size, field}
use Rattle.image.specs.Image.{Image, Row, nth_row}
use Rattle.image.specs.Decode.{rows_from, decoded_image, row_in_frame}
use Rattle.image.proofs.Accepted.{row-read, rows-count}
use Rattle.image.proofs.Rising.{row-at, from-read}
use Rattle.covering.specs.Matched.{hits, is_uneven_label, is_together}
use Rattle.covering.specs.inner.Sizes.{words_matched, covered_count}
use Rattle.covering.specs.inner.CoveringContracts.{SoundTable, is_together_with_some, has_any_together, words_with, words_in, has_uneven_rows}
use Rattle.covering.proofs.Chains.{any-chain}
use Rattle.covering.proofs.Hits.{label-low, label-of}
use Rattle.covering.proofs.Covered.{no-pair, full, one-hits}

words-own : (l b : ℕ) (r : Row) → r.from ≡ l → words_matched l b r ≡ words_with b r
words-own l b r e = grind (arith, eq-eqb)

words-other : (l b : ℕ) (r : Row) → (r.from ≡ l → ⊥) → words_matched l b r ≡ 0
words-other l b r n = grind (arith, ne_eqb)

module _ (b : List ℕ) (T : SoundTable b) where
  abbrev i : Image
  i = decoded_image b

  abbrev a : ℕ
  a = rows_from b

  -- ---- rows by their frames
  row-is : (k : ℕ) → k < length i.rows → row_in_frame b (a + k) ≡ nth_row i k
  row-is k h = sym (row-read b k (omega (arith, rows-count b)))

  inside : (k : ℕ) → k < length i.rows → a + k < size b
  inside k h = omega (arith, rows-count b, T.all)

  number : (f : ℕ) → a ≤ f → f < size b → f - a < length i.rows
  number f h g = omega (arith, rows-count b, T.all)

  pub from-low : (f : ℕ) → a ≤ f → f < size b → 2 ≤ field b f 1
  from-low f h g = omega (arith, from-read b T.all f h g, (T.image.each (f - a) (number f h g)).low)

  -- ---- n frames from first on, which hold all rows of label l and no other
  module _ (l first n : ℕ) (low : a ≤ first) (high : first + n ≤ size b) (own : (f : ℕ) → first ≤ f → f < first + n → field b f 1 ≡ l)
      (only : (f : ℕ) → a ≤ f → f < size b → field b f 1 ≡ l → (first ≤ f) × (f < first + n)) where
    words-are : (bit : ℕ) → covered_count i l bit ≡ words_in b bit first n
    unfolding covered_count
    words-are bit =
        let g : ℕ → ℕ = λ f. words_matched l bit (row_in_frame b f) in
        let m : ℕ = first - a in
        let rest : ℕ = size b - (first + n) in
        let other : (f : ℕ) → a ≤ f → f < size b → (first ≤ f → f < first + n → ⊥) → g f ≡ 0 =
        λ f x y z. words-other l bit (row_in_frame b f) (λ e. let w = only f x y e in z w.0 w.1) in
        let moved : sum g (a + 0) (length i.rows) ≡ covered_count i l bit =
        sum-move g (λ k. words_matched l bit (nth_row i k)) a 0 (length i.rows)
        (λ k x y. ap (words_matched l bit) (row-is k (omega arith))) in
        let parts : sum g (a + 0) (length i.rows) ≡ sum g a (m + (n + rest)) =
        ap₂ (λ (x y : ℕ). sum g x y) (omega arith) (omega (arith, rows-count b, T.all)) in
        let before : sum g a m ≡ 0 = sum-zero g a m (λ f x y. other f x (omega arith) (λ u v. omega arith)) in
        let here : sum g first n ≡ words_in b bit first n =
        sum-same g (λ f. words_with bit (row_in_frame b f)) first n (λ f x y. words-own l bit (row_in_frame b f) (own f x y)) in
        let after : sum g (first + n) rest ≡ 0 =
        sum-zero g (first + n) rest (λ f x y. other f (omega arith) (omega arith) (λ u v. omega arith)) in
        let at : sum g (a + m) (n + rest) ≡ sum g first (n + rest) = ap (λ (x : ℕ). sum g x (n + rest)) (omega arith) in
        omega (arith, moved, parts, before, here, after, at, sum-split g a m (n + rest), sum-split g first n rest)

    even-rows : ((w bit : ℕ) → w < 65536 → bit < 2 → hits i l w bit ≡ 1) → has_uneven_rows b first n ≡ false
    even-rows one =
        let none : has_any_together b first n ≡ false =
        any-chain _ _ _ ∙ any-none (λ f. is_together_with_some b (row_in_frame b f) first (f - first)) first n (λ j hj.
        any-chain _ _ _ ∙ any-none (λ g. is_together (row_in_frame b (first + j)) (row_in_frame b g)) first (first + j - first) (λ k hk.
        let f : ℕ = first + j in
        let g : ℕ = first + k in
        grind (arith, row-at b T.all f, row-at b T.all g, no-pair i T.image l one (f - a) (g - a), number f, number g, from-read b T.all f, from-read b T.all g, own f, own g))) in
        grind (arith, eq-eqb, none, words-are 0, words-are 1, full i T.image l one)

    one-of : has_uneven_rows b first n ≡ false → (w bit : ℕ) → w < 65536 → bit < 2 → hits i l w bit ≡ 1
    one-of e =
        let x : Bool = words_in b 0 first n == 65536 in
        let y : Bool = words_in b 1 first n == 65536 in
        let sums : (not x || not y) ≡ false = or-l (not x || not y) (has_any_together b first n) e in
        one-hits i T.image l (λ j k hj hk p q.
        let hk₂ : k < length i.rows = omega arith in
        let u = only (a + j) (omega arith) (inside j hj) (ap (λ (r : Row). r.from) (row-is j hj) ∙ p) in
        let v = only (a + k) (omega arith) (inside k hk₂) (ap (λ (r : Row). r.from) (row-is k hk₂) ∙ q) in
        let apart =
        any-false (λ g. is_together (row_in_frame b (a + j)) (row_in_frame b g)) first (a + j - first)
        (sym (any-chain _ _ _) ∙ any-false (λ f. is_together_with_some b (row_in_frame b f) first (f - first)) first n
        (sym (any-chain _ _ _) ∙ or-r (not x || not y) (has_any_together b first n) e)
        (a + j) u.0 u.1)
        (a + k) v.0 (omega (arith, u.0)) in
        grind (arith, row-is j hj, row-is k hk₂, apart))
        (grind (arith, eqb-true, words-are 0, sums)) (grind (arith, eqb-true, words-are 1, sums))

    pub rows-decide : has_uneven_rows b first n ≡ is_uneven_label i l
    rows-decide = grind (arith, common_steps, label-low, label-of, no_both, even-rows, one-of)
