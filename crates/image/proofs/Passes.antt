-- The text of a sound image passes the image check.
use Rattle.std.proofs.Common.{ℕ, zero, suc, ◌+◌, ◌-◌, ◌≤◌, ◌<◌, Bool, true, false, ◌&&◌, ◌||◌, not, ◌≡◌, refl, ◌∙◌, ap, ap₂, subst, ⊎_elim, ◌==◌, slice_index}
use Rattle.std.proofs.Common.{◌⊎◌, inl, inr, List, [], ◌∷◌, ◌++◌, arith, length, replicate, get_or-append-add, bit_and, le-ltb}
use Rattle.std.proofs.Common.{lt-ltb, le-leb, eq-eqb, ne_eqb}
use Rattle.std.proofs.Math.ListN.{get_or-replicate}
use Rattle.std.proofs.lemmas.Grind.{common_steps}
use Rattle.words.proofs.lists.Tests.{split, or-none, or-true-l, or-true-r}
use Rattle.words.proofs.lists.Searches.{any-none}
use Rattle.text.specs.frames.Frame.{size, field, pair}
use Rattle.text.specs.frames.Verdict.{Verdict, fine, next, when, at_lowest}
use Rattle.text.proofs.frames.Verdicts.{at-none}
use Rattle.image.specs.Image.{Image, Label, Row, image_text, nth_row}
use Rattle.image.specs.Decode.{scheme_count, last_label, row_count, rows_from, label_in, row_in}
use Rattle.image.specs.Check.{is_filled, has_bad_handler, has_bad_counts, is_bad_header, entry_position, label_position, row_position}
use Rattle.image.specs.Check.{position_of, is_falling, is_stray_frame, is_stray, is_within, is_bad_entry, is_bad_label}
use Rattle.image.specs.Check.{has_bad_bit, is_bad_row, is_bad_frame, has_bad_content, table_verdict, image_verdict}
use Rattle.image.specs.inner.Sound.{nth_label, end_of, Reaches, SoundRow, SoundImage}
use Rattle.image.proofs.Written.{Reads, image-reads, image-text-fine}
use Rattle.image.proofs.Accepted.{position-of-entry, position-of-label, position-of-row}
use Rattle.image.proofs.HeaderCases.{equal}
use Rattle.image.proofs.Decoded.{schemes-is, last-is, rows-is, handler-is, label-is, row-is}

-- the n bytes behind xs are 0
zeros : (xs : List ℕ) (n k : ℕ) → k < n → slice_index (xs ++ replicate n 0) (length xs + k) ≡ 0
zeros xs n k h = get_or-append-add xs (replicate n 0) k 0 ∙ get_or-replicate n k 0 0 h

empty : (b : List ℕ) (f k n : ℕ) → ((j : ℕ) → j < n → field b f (k + j) ≡ 0) → is_filled b f k n ≡ false
empty b f k n h = any-none (λ j. not (field b f j == 0)) k n (λ j l. equal (field b f (k + j)) 0 (h j l))

-- a frame is the header, an entry, a label or a row
frame-cases : (P : ℕ → Type 0) (e l r : ℕ) → P 0 → ((h : ℕ) → h < e → P (suc h)) → ((k : ℕ) → k < l → P (suc (e + k)))
    → ((k : ℕ) → k < r → P (suc (e + l + k))) → (f : ℕ) → f < 1 + e + l + r → P f
frame-cases P e l r p₀ p₁ p₂ p₃ zero h = p₀
frame-cases P e l r p₀ p₁ p₂ p₃ (suc f) h =
    ⊎_elim (λ (a : f < e). p₁ f a)
    (λ (a : e ≤ f).
    ⊎_elim (λ (b : f < e + l). subst P (omega arith) (p₂ (f - e) (omega arith)))
    (λ (b : e + l ≤ f). subst P (omega arith) (p₃ (f - (e + l)) (omega arith)))
    (split f (e + l)))
    (split f e)

module _ (i : Image) (b : List ℕ) (S : SoundImage i) (R : Reads i b) where
  abbrev label_from : ℕ → ℕ
  label_from l = suc (length i.entries + l)

  abbrev row_from : ℕ → ℕ
  row_from k = suc (length i.entries + length i.labels + k)

  -- 11
  counts-fine : has_bad_counts b ≡ false
  counts-fine =
      ap₂ ◌||◌ (ap₂ ◌||◌ (ap₂ ◌||◌
      (ne_eqb (scheme_count b) 0 (λ z. omega (arith, schemes-is i b S R, S.first)))
      (le-ltb 16 (scheme_count b) (omega (arith, schemes-is i b S R, S.most))))
      (ne_eqb (last_label b) 0 (λ z. omega (arith, last-is i b S R, S.two))))
      (le-ltb 1024 (row_count b) (omega (arith, rows-is i b S R, S.few)))

  handler-fine : has_bad_handler b ≡ false
  handler-fine = grind (arith, common_steps, schemes-is, le-ltb, or-none, ne_eqb, handler-is)

  header-fine : is_bad_header b ≡ false
  unfolding is_bad_header
  header-fine =
      ap₂ ◌||◌ (ap₂ ◌||◌ (ap₂ ◌||◌ (ap₂ ◌||◌
      (equal (field b 0 0) 15 (R.head 0 (omega arith)))
      (empty b 0 6 4 (λ k h. R.head (6 + k) (omega arith)
      ∙ zeros (15 ∷ length i.entries ∷ (length i.labels - 1) ∷ pair (length i.rows) ++ (i.handler ∷ [])) 4 k h)))
      handler-fine)
      counts-fine)
      (equal (size b) (rows_from b + row_count b) (omega (arith, R.count, schemes-is i b S R, last-is i b S R, rows-is i b S R, S.two)))

  -- the place of each frame
  position-entry : (h : ℕ) → h < length i.entries → position_of b (suc h) ≡ entry_position (suc h)
  position-entry h l = position-of-entry b (suc h) (omega arith) (omega (arith, schemes-is i b S R))

  position-label : (l : ℕ) → l < length i.labels → position_of b (label_from l) ≡ label_position l
  position-label l h = ap (position_of b) (omega (arith, schemes-is i b S R)) ∙ position-of-label b l (omega (arith, last-is i b S R))

  position-row : (k : ℕ) → k < length i.rows → position_of b (row_from k) ≡ row_position k
  position-row k h = ap (position_of b) (omega (arith, schemes-is i b S R, last-is i b S R, S.two)) ∙ position-of-row b k

  -- 12
  rows-rise : (k : ℕ) → k < length i.rows → is_falling b k ≡ false
  rows-rise zero h = refl
  rows-rise (suc k) h =
      let p : (row_in b (suc k)).from ≡ (nth_row i (suc k)).from = ap (λ (r : Row). r.from) (row-is i b S R (suc k) h) in
      let q : (row_in b k).from ≡ (nth_row i k).from = ap (λ (r : Row). r.from) (row-is i b S R k (omega arith)) in
      le-ltb (row_in b (suc k)).from (row_in b k).from (omega (arith, p, q, S.rising k h))

  numbered : (a x n y : ℕ) → a ≡ x → n ≡ y → not (a == x && n == y) ≡ false
  numbered a x n y e f = ap not (ap₂ ◌&&◌ (eq-eqb a x e) (eq-eqb n y f))

  stray-none : (f : ℕ) → f < size b → is_stray b f ≡ false
  unfolding is_stray
  stray-none f h =
      frame-cases (λ f. is_stray b f ≡ false) (length i.entries) (length i.labels) (length i.rows)
      (unfold position_of in refl)
      (λ h l. ap (is_stray_frame b (suc h)) (position-entry h l)
      ∙ numbered (field b (suc h) 0) 16 (field b (suc h) 1) (suc h) (R.entry h 0 l (omega arith)) (R.entry h 1 l (omega arith)))
      (λ l h. ap (is_stray_frame b (label_from l)) (position-label l h)
      ∙ numbered (field b (label_from l) 0) 17 (field b (label_from l) 1) l (R.label l 0 h (omega arith)) (R.label l 1 h (omega arith)))
      (λ k h. ap (is_stray_frame b (row_from k)) (position-row k h)
      ∙ ap₂ ◌||◌ (equal (field b (row_from k) 0) 18 (R.row k 0 h (omega arith))) (rows-rise k h))
      f (omega (arith, R.count))

  -- 13
  within-true : (h l : ℕ) → Reaches i h l → is_within b h l ≡ true
  within-true h l r = ap₂ ◌&&◌ (le-leb l (last_label b) (omega (arith, r.inside, last-is i b S R))) (go r.belongs)
    where
      go : ((nth_label i l).owner ≡ h) ⊎ (l ≡ end_of h) → ((label_in b l).owner == h || l == end_of h) ≡ true
      go (inl e) =
          or-true-l ((label_in b l).owner == h) (l == end_of h)
          (eq-eqb (label_in b l).owner h (ap (λ (x : Label). x.owner) (label-is i b S R l r.inside) ∙ e))
      go (inr e) = or-true-r ((label_in b l).owner == h) (l == end_of h) (eq-eqb l (end_of h) e)

  entry-fine : (h : ℕ) → h < length i.entries → is_bad_entry b (suc h) ≡ false
  entry-fine h l =
      ap₂ ◌||◌
      (empty b (suc h) 3 7 (λ k m. R.entry h (3 + k) l (omega arith) ∙ zeros (16 ∷ suc h ∷ slice_index i.entries h ∷ []) 7 k m))
      (ap not (ap (is_within b (suc h)) (R.entry h 2 l (omega arith)) ∙ within-true (suc h) (slice_index i.entries h) (S.starts h l)))

  label-fine : (l : ℕ) → l < length i.labels → is_bad_label b l (nth_label i l) ≡ false
  label-fine zero h = grind (arith, common_steps)
  label-fine (suc zero) h = grind (arith, common_steps)
  label-fine (suc (suc l)) h = grind (arith, common_steps)

  -- a row is judged by the label that it leaves
  module _ (r : Row) (s : SoundRow i r) where
    from-is : label_in b r.from ≡ nth_label i r.from
    from-is = label-is i b S R r.from s.high

    bit-fine : has_bad_bit b r ≡ false
    bit-fine = grind (arith, common_steps, equal, split, le-ltb, lt-ltb, from-is)

    row-fine : (f : ℕ) → is_filled b f 8 2 ≡ false → is_bad_row b f r ≡ false
    row-fine f z =
        ap₂ ◌||◌ (ap₂ ◌||◌ (ap₂ ◌||◌ (ap₂ ◌||◌ (ap₂ ◌||◌
        (le-ltb r.from 2 s.low)
        (le-ltb (last_label b) r.from (omega (arith, s.high, last-is i b S R))))
        (equal (bit_and r.values r.care) r.values s.within))
        bit-fine)
        (ap not (ap (λ (x : Label). is_within b x.owner r.next) from-is
        ∙ within-true (nth_label i r.from).owner r.next s.leading)))
        z

  tail-empty : (k : ℕ) → k < length i.rows → is_filled b (row_from k) 8 2 ≡ false
  tail-empty k h = empty b (row_from k) 8 2 at
    where
      at : (j : ℕ) → j < 2 → field b (row_from k) (8 + j) ≡ 0
      at zero l = R.row k 8 h (omega arith)
      at (suc zero) l = R.row k 9 h (omega arith)
      at (suc (suc j)) l = absurd (omega arith)

  content-good : (f : ℕ) → f < size b → has_bad_content b f ≡ false
  unfolding has_bad_content
  content-good f h =
      frame-cases (λ f. has_bad_content b f ≡ false) (length i.entries) (length i.labels) (length i.rows)
      (unfold position_of in refl)
      (λ h l. ap (is_bad_frame b (suc h)) (position-entry h l) ∙ entry-fine h l)
      (λ l h. ap (is_bad_frame b (label_from l)) (position-label l h) ∙ ap (is_bad_label b l) (label-is i b S R l h) ∙ label-fine l h)
      (λ k h. ap (is_bad_frame b (row_from k)) (position-row k h) ∙ ap (is_bad_row b (row_from k)) (row-is i b S R k h)
      ∙ row-fine (nth_row i k) (S.each k h) (row_from k) (tail-empty k h))
      f (omega (arith, R.count))

  pub table-fine : table_verdict b ≡ fine
  unfolding table_verdict
  table-fine =
      ap (λ (t : Bool). next (when 11 t) λ _. next (at_lowest 12 (is_stray b) (size b)) λ _. at_lowest 13 (has_bad_content b)
      (size b)) header-fine
      ∙ ap (λ (v : Verdict). next v λ _. at_lowest 13 (has_bad_content b) (size b)) (at-none 12 (is_stray b) (size b) stray-none)
      ∙ at-none 13 (has_bad_content b) (size b) content-good

pub image-fine : (i : Image) → SoundImage i → image_verdict (image_text i) ≡ fine
unfolding image_verdict
image-fine i S = grind (arith, common_steps, image-reads, image-text-fine, table-fine)
