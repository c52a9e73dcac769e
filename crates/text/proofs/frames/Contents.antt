-- Texts there and back: the contents of the text of records are those records, and the text of an accepted text's contents is that text
-- in capitals.
use Rattle.std.proofs.Common.{ℕ, zero, suc, ◌+◌, ◌*◌, ◌/◌, ◌%◌, ◌≤◌, ◌<◌, Bool, false, ◌≡◌, refl, sym, ◌∙◌, ap, subst, ⊎_elim, List, nat_le, ◌==◌, slice_index, slice_index_or, not}
use Rattle.std.proofs.Common.{[], ◌∷◌, ◌++◌, map, arith, length, length-append, ext_get_or, get_or-append-add, ltb-false}
use Rattle.std.proofs.Common.{leb-false, eqb-true}
use Rattle.std.proofs.Math.ListN.{length-map, get_or-eq_default, get_or-append}
use borrow.Author.Tests.{eqb-false}
use Rattle.std.proofs.lemmas.Grind.{common_steps}
use Rattle.words.specs.lists.Numbers.{range, sum, any}
use Rattle.words.proofs.lists.Tests.{split, or-l, or-r, not-false}
use Rattle.words.proofs.lists.Searches.{any-false}
use Rattle.words.proofs.lists.Ranges.{length-map-range, get_or-map-range}
use Rattle.words.proofs.lists.Joins.{all-map, all-every, length-concat-range, concat-range-at}
use Rattle.std.specs.List.{AllByRecursion}
use Rattle.text.specs.digits.Digit.{digit_of, capital}
use Rattle.text.proofs.digits.Digits.{capital-same, capital-at, char-digit}
use Rattle.text.specs.frames.Frame.{frame_count, byte_at, contents, size, field, byte_text, total, sum_byte, frame_text, frames_text}
use Rattle.text.specs.frames.Frame.{ten_bytes_at, text_of}
use Rattle.text.specs.frames.Verdict.{Verdict, fine, next, when, at_lowest}
use Rattle.text.specs.frames.Check.{is_bad_length, has_bad_form, has_bad_sum, text_verdict}
use Rattle.text.proofs.frames.Verdicts.{next-first, next-rest, when-fine, at-lowest-fine}
use Rattle.text.proofs.frames.Frames.{Frame, eleven, total-snoc, sum-places, frame-char, frame-feed, eleven-at, eleven-last}
use Rattle.text.proofs.frames.Texts.{text-length, text-here, text-fine, contents-length, contents-at}

-- ---- what no refusal of 1 tells, for a unit of a frame's characters or a record's bytes
pub record Length (unit most n : ℕ) : Type 0 where
  pub some : n ≡ 0 → ⊥
  pub whole : n % unit ≡ 0
  pub fits : n ≤ most

pub length-told : (unit most n : ℕ) → is_bad_length unit most n ≡ false → Length unit most n
length-told unit most n e = grind (arith, common_steps, or-r, not-false, eqb-true, ltb-false, or-l, eqb-false)

-- ---- records to text and back
module _ (b : List ℕ) (bytes : (k : ℕ) → slice_index b k < 256) where
  pub ten-frame : (f : ℕ) → Frame (ten_bytes_at b f)
  ten-frame f = grind (arith, common_steps, split, get_or-eq_default, get_or-map-range)

  abbrev tens : List (List ℕ)
  tens = map (ten_bytes_at b) (range 0 (size b))

  pub ten-frames : AllByRecursion Frame tens
  ten-frames = all-map Frame (ten_bytes_at b) (range 0 (size b)) (all-every (λ f. Frame (ten_bytes_at b f)) ten-frame (range 0 (size b)))

  tens-count : length tens ≡ size b
  tens-count = length-map-range (ten_bytes_at b) 0 (size b)

  tens-at : (f : ℕ) → f < size b → slice_index_or tens f [] ≡ ten_bytes_at b f
  tens-at f h = get_or-map-range (ten_bytes_at b) [] 0 (size b) f h ∙ ap (ten_bytes_at b) (omega arith)

  pub text_of-length : length (text_of b) ≡ 23 * size b
  unfolding text_of
  text_of-length = text-length tens ten-frames ∙ ap (λ (n : ℕ). 23 * n) tens-count

  pub text_of-fine : (most : ℕ) → 1 ≤ size b → 23 * size b ≤ most → text_verdict most (text_of b) ≡ fine
  unfolding text_of
  text_of-fine most some fits = text-fine tens ten-frames most (omega (arith, tens-count)) (omega (arith, tens-count))

  pub text_of-here : (f k : ℕ) → f < size b → k < 23 → slice_index (text_of b) (23 * f + k) ≡ slice_index (frame_text (ten_bytes_at b f)) k
  unfolding text_of
  text_of-here f k h l =
      text-here tens ten-frames f (omega (arith, tens-count)) k l ∙ ap (λ (bs : List ℕ). slice_index (frame_text bs) k) (tens-at f h)

  pub text_of-contents : length b % 10 ≡ 0 → contents (text_of b) ≡ b
  unfolding text_of
  text_of-contents whole =
      let t : List ℕ = frames_text tens in
      let n : length (contents t) ≡ length b = contents-length tens ten-frames ∙ omega (arith, tens-count) in
      ext_get_or 0 (contents t) b n (λ i h.
      ap (λ (j : ℕ). slice_index (contents t) j) (omega arith)
      ∙ contents-at tens ten-frames (i / 10) (i % 10) (omega (arith, tens-count)) (omega arith)
      ∙ ap (λ (bs : List ℕ). slice_index bs (i % 10)) (tens-at (i / 10) (omega arith))
      ∙ get_or-map-range (field b (i / 10)) 0 0 10 (i % 10) (omega arith)
      ∙ ap (λ (j : ℕ). slice_index b j) (omega arith))

-- ---- the contents of any text, by place
module _ (t : List ℕ) where
  pub any-contents-length : length (contents t) ≡ 10 * frame_count t
  unfolding contents
  any-contents-length = length-concat-range (λ f. map (byte_at t f) (range 0 10)) 10 0 (frame_count t) (λ f. refl)

  pub any-contents-at : (f k : ℕ) → f < frame_count t → k < 10 → field (contents t) f k ≡ byte_at t f k
  unfolding contents
  any-contents-at f k h l = grind (arith, common_steps, concat-range-at, get_or-map-range)

-- ---- what acceptance of a text tells
pub record Clean (most : ℕ) (t : List ℕ) : Type 0 where
  pub length : Length 23 most (length t)
  pub forms : (f : ℕ) → f < frame_count t → has_bad_form t f ≡ false
  pub sums : (f : ℕ) → f < frame_count t → has_bad_sum t f ≡ false

pub text-told : (most : ℕ) (t : List ℕ) → text_verdict most t ≡ fine → Clean most t
unfolding text_verdict
text-told most t e =
    let u : Verdict = when 1 (is_bad_length 23 most (length t)) in
    let v : Verdict = at_lowest 2 (has_bad_form t) (frame_count t) in
    let w : Verdict = at_lowest 3 (has_bad_sum t) (frame_count t) in
    let r : next v (λ _. w) ≡ fine = next-rest u (λ _. next v λ _. w) e in
    record {
      length = length-told 23 most (length t) (when-fine 1 (is_bad_length 23 most (length t)) (next-first u (λ _. next v λ _. w) e));
      forms = at-lowest-fine 2 (has_bad_form t) (frame_count t) (next-first v (λ _. w) r);
      sums = at-lowest-fine 3 (has_bad_sum t) (frame_count t) (next-rest v (λ _. w) r);
    }

-- ---- text to records and back
-- a frame without a wrong character
module _ (t : List ℕ) (f : ℕ) (form : has_bad_form t f ≡ false) where
  pub digit-small : (k : ℕ) → k < 22 → digit_of (slice_index t (23 * f + k)) < 16
  unfolding has_bad_form
  digit-small k l =
      let p : ℕ → Bool = λ k. nat_le 16 (digit_of (slice_index t (23 * f + k))) in
      leb-false 16 (digit_of (slice_index t (23 * f + k)))
      (any-false p 0 22 (or-l (any p 0 22) (not (slice_index t (23 * f + 22) == 10)) form) k (omega arith) (omega arith))

  pub feed-is : slice_index t (23 * f + 22) ≡ 10
  unfolding has_bad_form
  feed-is = grind (arith, common_steps, or-r, not-false, eqb-true)

  high : (k : ℕ) → k < 11 → digit_of (slice_index t (23 * f + 2 * k)) < 16
  high k l = digit-small (2 * k) (omega arith)

  low : (k : ℕ) → k < 11 → digit_of (slice_index t (23 * f + 2 * k + 1)) < 16
  low k l = subst (λ (j : ℕ). digit_of (slice_index t j) < 16) (omega arith) (digit-small (2 * k + 1) (omega arith))

  pub byte-small : (k : ℕ) → k < 11 → byte_at t f k < 256
  byte-small k l = omega (arith, high k l, low k l)

  -- a byte's characters are the text's, in capitals
  pair-back : (k s : ℕ) → k < 11 → s < 2 → slice_index (byte_text (byte_at t f k)) s ≡ capital (slice_index t (23 * f + (2 * k + s)))
  pair-back k zero l m = grind (arith, common_steps, char-digit (slice_index t (23 * f + 2 * k)) (high k l), high k l, low k l)
  pair-back k (suc zero) l m = grind (arith, common_steps, char-digit (slice_index t (23 * f + 2 * k + 1)) (low k l), high k l, low k l)
  pair-back k (suc (suc s)) l m = grind (arith, common_steps)

  -- ten bytes that are the frame's first ten, where the sum is right
  module _ (good : has_bad_sum t f ≡ false) (bs : List ℕ) (F : Frame bs) (same : (k : ℕ) → k < 10 → slice_index bs k ≡ byte_at t f k) where
    sum-back : sum_byte bs ≡ byte_at t f 10
    unfolding has_bad_sum
    sum-back =
        let x : ℕ = byte_at t f 10 in
        let s : ℕ = sum (byte_at t f) 0 11 in
        let m : length (bs ++ (x ∷ [])) ≡ 11 = length-append bs (x ∷ []) ∙ omega (arith, F.ten) in
        let e : sum (byte_at t f) 0 (length (bs ++ (x ∷ []))) ≡ total (bs ++ (x ∷ [])) = sum-places (byte_at t f) (bs ++ (x ∷ [])) 0 (λ i l.
        ⊎_elim (λ (h : i < 10). ap (byte_at t f) (omega arith) ∙ sym (get_or-append bs (x ∷ []) 0 i (omega (arith, F.ten)) ∙ same i h))
        (λ (h : 10 ≤ i).
        let j : i ≡ length bs + 0 = omega (arith, l, m, F.ten) in
        let o : 0 + i ≡ 10 = omega (arith, F.ten) in
        ap (byte_at t f) o ∙ sym (ap (λ (k : ℕ). slice_index (bs ++ (x ∷ [])) k) j ∙ get_or-append-add bs (x ∷ []) 0 0))
        (split i 10)) in
        let z : s % 256 ≡ 0 = eqb-true (s % 256) 0 (not-false (s % 256 == 0) good) in
        let q : sum (byte_at t f) 0 (length (bs ++ (x ∷ []))) ≡ s = ap (sum (byte_at t f) 0) m in
        omega (arith, e, z, q, total-snoc bs x, byte-small 10 (omega arith))

    eleven-back : (k : ℕ) → k < 11 → slice_index (eleven bs) k ≡ byte_at t f k
    eleven-back k l = grind (arith, common_steps, split k 10, eleven-at, eleven-last, sum-back)

    pub frame-back : (k : ℕ) → k < 23 → slice_index (frame_text bs) k ≡ capital (slice_index t (23 * f + k))
    frame-back k l =
        ⊎_elim (λ (m : k < 22).
        ap (λ (j : ℕ). slice_index (frame_text bs) j) (omega arith) ∙ frame-char bs F (k / 2) (k % 2) (omega arith) (omega arith)
        ∙ ap (λ (b : ℕ). slice_index (byte_text b) (k % 2)) (eleven-back (k / 2) (omega arith))
        ∙ pair-back (k / 2) (k % 2) (omega arith) (omega arith) ∙ ap (λ (j : ℕ). capital (slice_index t j)) (omega arith))
        (λ (m : 22 ≤ k).
        let j : k ≡ 22 = omega arith in
        ap (λ (i : ℕ). slice_index (frame_text bs) i) j ∙ frame-feed bs F ∙ sym (ap capital feed-is ∙ capital-same 10 (omega arith))
        ∙ ap (λ (i : ℕ). capital (slice_index t (23 * f + i))) (sym j))
        (split k 22)

pub contents-bytes : (t : List ℕ) → ((f : ℕ) → f < frame_count t → has_bad_form t f ≡ false) → (k : ℕ) → slice_index (contents t) k < 256
contents-bytes t forms k =
    let n : length (contents t) ≡ 10 * frame_count t = any-contents-length t in
    ⊎_elim (λ (h : k < length (contents t)).
    subst (λ (x : ℕ). x < 256)
    (sym (ap (λ (j : ℕ). slice_index (contents t) j) (omega arith) ∙ any-contents-at t (k / 10) (k % 10) (omega arith) (omega arith)))
    (byte-small t (k / 10) (forms (k / 10) (omega arith)) (k % 10) (omega arith)))
    (λ (h : length (contents t) ≤ k). subst (λ (x : ℕ). x < 256) (sym (get_or-eq_default (contents t) 0 h)) (omega arith))
    (split k (length (contents t)))

pub text-back : (most : ℕ) (t : List ℕ) → Clean most t → text_of (contents t) ≡ map capital t
text-back most t C =
    let b : List ℕ = contents t in
    let bytes : (k : ℕ) → slice_index b k < 256 = contents-bytes t C.forms in
    let m : size b ≡ frame_count t = omega (arith, any-contents-length t) in
    let w : length t % 23 ≡ 0 = C.length.whole in
    let n : length (text_of b) ≡ length t = text_of-length b bytes ∙ omega arith in
    ext_get_or 0 (text_of b) (map capital t) (n ∙ sym (length-map t capital)) (λ i h.
    ap (λ (j : ℕ). slice_index (text_of b) j) (omega arith)
    ∙ text_of-here b bytes (i / 23) (i % 23) (omega (arith, m, n, h)) (omega arith)
    ∙ frame-back t (i / 23) (C.forms (i / 23) (omega (arith, n, h))) (C.sums (i / 23) (omega (arith, n, h)))
    (ten_bytes_at b (i / 23)) (ten-frame b bytes (i / 23)) (λ k l.
    get_or-map-range (field b (i / 23)) 0 0 10 k l ∙ ap (λ (j : ℕ). slice_index b j) (omega arith)
    ∙ any-contents-at t (i / 23) k (omega (arith, n, h)) l)
    (i % 23) (omega arith)
    ∙ ap (λ (j : ℕ). capital (slice_index t j)) (omega arith)
    ∙ sym (capital-at t i))

-- what is written is in capitals
pub text_of-capitals : (b : List ℕ) → ((k : ℕ) → slice_index b k < 256) → 1 ≤ size b → length b % 10 ≡ 0 → map capital (text_of b) ≡ text_of b
text_of-capitals b bytes some whole =
    sym (text-back (23 * size b) (text_of b) (text-told (23 * size b) (text_of b) (text_of-fine b bytes (23 * size b) some (omega arith))))
    ∙ ap text_of (text_of-contents b bytes whole)
