-- The rows of one label, for one word and one bit:
-- every word that agrees on the mask of the row chosen and of the conditions against the others chooses the same row, and no condition of
-- the row's own care mask can be left out.
use Rattle.std.proofs.Common.{if◌then◌else◌, ◌≡◌, sym, ◌∙◌, ap, ◌⊎◌, inl, inr, Bool, true, false, ◌&&◌, ◌||◌, not, List, [], ◌∷◌, ℕ, zero, ◌==◌, slice_index_or}
use Rattle.std.proofs.Common.{suc, ◌^◌, ◌%◌, ◌≤◌, ◌<◌, min, max, arith, bit_and, bit_or, length, pow_mono, eq-eqb, ne_eqb}
use Rattle.std.proofs.Common.{eqb-true}
use Rattle.std.proofs.Math.Nat.{div-eq_of_lt}
use Rattle.std.specs.Int.Bits.{and_le_r}
use Rattle.std.proofs.lemmas.Bool.{eqb-false}
use Rattle.std.proofs.lemmas.Grind.{common_steps}
use Rattle.words.specs.lists.Numbers.{lowest}
use Rattle.words.proofs.lists.Tests.{no_both, split, cases, and-l, and-r, and-true, and-no, not-true, not-false, and-false}
use Rattle.words.proofs.lists.Searches.{lowest-hit, lowest-past}
use Rattle.std.specs.Int.{bit_at}
use Rattle.words.specs.bits.Word.{is_agreeing}
use Rattle.words.proofs.bits.BitLaws.{bit-and, bit-or, same-bits, bit-pow-same, bit-cases, Mask, agree-match, clash-match}
use Rattle.words.proofs.bits.MaskLaws.{within-lacks}
use Rattle.image.specs.Image.{Image, Row, no_row, nth_row}
use Rattle.image.specs.inner.Sound.{SoundRow, SoundImage}
use Rattle.rows.specs.Rows.{is_match, is_candidate, row, best_row}
use Rattle.rows.specs.Choices.{Best}
use Rattle.cause.specs.Cause.{is_differing, is_contradicted, mask_against, mask_against_all}
use Rattle.rows.proofs.BestRows.{best-is, is-best}

-- ---- words that agree on a mask
pub agree-bit : (v w m i : ℕ) → bit_and v m ≡ bit_and w m → bit_at m i ≡ 1 → bit_at v i ≡ bit_at w i
agree-bit v w m i e o =
    let p : min (bit_at v i) (bit_at m i) ≡ min (bit_at w i) (bit_at m i) = sym (bit-and v m i) ∙ ap (λ (x : ℕ). bit_at x i) e ∙ bit-and w m i in
    omega arith

-- and so on a part of it
pub agree-part : (v w m care : ℕ) → care < 2 ^ 16 → ((i : ℕ) → bit_at care i ≡ 1 → bit_at m i ≡ 1)
    → bit_and v m ≡ bit_and w m → bit_and v care ≡ bit_and w care
agree-part v w m care small part e =
    same-bits 16 (bit_and v care) (bit_and w care) (omega (arith, and_le_r v care))
    (omega (arith, and_le_r w care)) (λ i. at i (bit-cases care i))
  where
    at : (i : ℕ) → (bit_at care i ≡ 0) ⊎ (bit_at care i ≡ 1) → bit_at (bit_and v care) i ≡ bit_at (bit_and w care) i
    at i (inl z) = bit-and v care i ∙ (let q : min (bit_at v i) (bit_at care i) ≡ min (bit_at w i) (bit_at care i) = omega arith in q)
        ∙ sym (bit-and w care i)
    at i (inr o) = bit-and v care i ∙ ap (λ (x : ℕ). min x (bit_at care i)) (agree-bit v w m i e (part i o)) ∙ sym (bit-and w care i)

-- ---- one row
high-none : (c j : ℕ) → c < 2 ^ 16 → 16 ≤ j → bit_at c j ≡ 0
high-none c j h m = ap (λ (x : ℕ). x % 2) (div-eq_of_lt (omega (arith, pow_mono {i = 16} {j = j} m)))

-- a care mask and values that the word does not match have a contradicting condition, and the lowest is one
pub low-differs : (w care values : ℕ) → care < 65536 → values < 65536 → bit_and values care ≡ values → is_agreeing w care values ≡ false
    → lowest (is_differing w care values) 0 16 < 16
low-differs w care values small tiny kept e = go (split (lowest p 0 16) 16)
  where
    p : ℕ → Bool
    p = is_differing w care values

    mask : Mask care values
    mask = record { small = small; low = tiny; within = λ j z. within-lacks j values care kept (λ o. omega arith) }

    each : 16 ≤ lowest p 0 16 → (j : ℕ) → bit_at care j ≡ 1 → bit_at w j ≡ bit_at values j
    each h j o = at (split j 16)
      where
        at : (j < 16) ⊎ (16 ≤ j) → bit_at w j ≡ bit_at values j
        at (inl m) =
            let no_one : p j ≡ false = lowest-past p 0 16 (omega arith) j (omega arith) (omega arith) in
            eqb-true (bit_at w j) (bit_at values j) (not-false (bit_at w j == bit_at values j)
            (and-false (bit_at care j == 1) (not (bit_at w j == bit_at values j)) no_one (eq-eqb (bit_at care j) 1 o)))
        at (inr m) = absurd (omega (arith, high-none care j small m))

    go : (lowest p 0 16 < 16) ⊎ (16 ≤ lowest p 0 16) → lowest p 0 16 < 16
    go (inl h) = h
    go (inr h) = no_both (is_agreeing w care values)
        (eq-eqb (bit_and w care) values (agree-match w care values mask (record { agrees = each h }))) e

module _ (i : Image) (w : ℕ) (r : Row) (s : SoundRow i r) where
  lowest-contradicts : is_agreeing w r.care r.values ≡ false
      → is_differing w r.care r.values (lowest (is_differing w r.care r.values) 0 16) ≡ true
  lowest-contradicts e = grind (arith, common_steps, lowest-hit, low-differs)

  -- a word with the same value there does not match it either
  still : is_agreeing w r.care r.values ≡ false → (v : ℕ)
      → bit_at v (lowest (is_differing w r.care r.values) 0 16) ≡ bit_at w (lowest (is_differing w r.care r.values) 0 16)
      → is_agreeing v r.care r.values ≡ false
  still e v q =
      let j : ℕ = lowest (is_differing w r.care r.values) 0 16 in
      let t : is_differing w r.care r.values j ≡ true = lowest-contradicts e in
      let o : bit_at r.care j ≡ 1 = eqb-true (bit_at r.care j) 1
      (and-l (bit_at r.care j == 1) (not (bit_at w j == bit_at r.values j)) t) in
      let d : bit_at w j ≡ bit_at r.values j → ⊥ =
      eqb-false (bit_at w j) (bit_at r.values j)
      (not-true (bit_at w j == bit_at r.values j) (and-r (bit_at r.care j == 1) (not (bit_at w j == bit_at r.values j)) t)) in
      ne_eqb (bit_and v r.care) r.values
      (clash-match v r.care r.values (record { place = j; cares = o; differs = λ z. d (sym q ∙ z) }))

-- ---- all rows
has-against : (l w b j : ℕ) (rs : List Row) (k : ℕ) → k < length rs
    → bit_at (mask_against l w b (slice_index_or rs k no_row)) j ≡ 1 → bit_at (mask_against_all l w b rs) j ≡ 1
unfolding mask_against_all
has-against l w b j [] k h o = absurd (omega arith)
has-against l w b j (r ∷ rs) k h o = go k h o (has-against l w b j rs)
  where
    whole : bit_at (mask_against_all l w b (r ∷ rs)) j ≡ max (bit_at (mask_against l w b r) j) (bit_at (mask_against_all l w b rs) j)
    whole = bit-or (mask_against l w b r) (mask_against_all l w b rs) j

    go : (k : ℕ) → k < length (r ∷ rs) → bit_at (mask_against l w b (slice_index_or (r ∷ rs) k no_row)) j ≡ 1
        → ((k : ℕ) → k < length rs → bit_at (mask_against l w b (slice_index_or rs k no_row)) j ≡ 1 → bit_at (mask_against_all l w b rs) j ≡ 1)
        → bit_at (mask_against_all l w b (r ∷ rs)) j ≡ 1
    go zero h o ih = omega (arith, whole, o)
    go (suc k) h o ih = omega (arith, whole, ih k (omega arith) o)

module _ (i : Image) (sound : SoundImage i) (l w b : ℕ) where
  module _ (v m : ℕ) (e : bit_and v m ≡ bit_and w m) (part : (j : ℕ) → bit_at (mask_against_all l w b i.rows) j ≡ 1 → bit_at m j ≡ 1) where
    -- what w does not match, v does not match
    kept-out : (k : ℕ) → k < length i.rows → is_candidate l w b (nth_row i k) ≡ false → is_candidate l v b (nth_row i k) ≡ false
    kept-out k h q = go (cases (r.from == l)) (cases (r.bit == 2 || r.bit == b)) (cases (is_agreeing w r.care r.values))
      where
        r : Row
        r = nth_row i k

        x : ℕ
        x = lowest (is_differing w r.care r.values) 0 16

        go : ((r.from == l) ≡ true) ⊎ ((r.from == l) ≡ false)
            → ((r.bit == 2 || r.bit == b) ≡ true) ⊎ ((r.bit == 2 || r.bit == b) ≡ false)
            → (is_agreeing w r.care r.values ≡ true) ⊎ (is_agreeing w r.care r.values ≡ false) → is_candidate l v b r ≡ false
        go (inr f) y z = ap (λ (t : Bool). t && is_match v b r) f
        go (inl f) (inr y) z =
            and-no (r.from == l) (is_match v b r) (and-no (is_agreeing v r.care r.values) (r.bit == 2 || r.bit == b) y)
        go (inl f) (inl y) (inl z) =
            no_both (is_candidate l w b r)
            (and-true (r.from == l) (is_match w b r) f
            (and-true (is_agreeing w r.care r.values) (r.bit == 2 || r.bit == b) z y)) q
        go (inl f) (inl y) (inr z) =
            let out : is_contradicted l w b r ≡ true =
            and-true (r.from == l) ((r.bit == 2 || r.bit == b) && not (is_agreeing w r.care r.values)) f
            (and-true (r.bit == 2 || r.bit == b) (not (is_agreeing w r.care r.values)) y (ap not z)) in
            let one : bit_at (mask_against l w b r) x ≡ 1 = ap (λ (t : Bool). bit_at (if t then 2 ^ x else 0) x) out ∙ bit-pow-same x in
            let same : bit_at v x ≡ bit_at w x = agree-bit v w m x e (part x (has-against l w b x i.rows k h one)) in
            let no-match : is_agreeing v r.care r.values ≡ false = still i w r (sound.each k h) z v same in
            and-no (r.from == l) (is_match v b r) (ap (λ (t : Bool). t && (r.bit == 2 || r.bit == b)) no-match)

    same-best : (k : ℕ) (r : Row) → ((j : ℕ) → bit_at r.care j ≡ 1 → bit_at m j ≡ 1) → Best l w b i.rows k r → Best l v b i.rows k r
    same-best k r cares best = grind (arith, common_steps, cases, no_both, agree-part, kept-out)

  -- the mask of a cause decides the row
  pub mask-decides : (k : ℕ) (r : Row) → best_row l w b 0 i.rows ≡ row k r → (v : ℕ)
      → let m = bit_or r.care (mask_against_all l w b i.rows) in
      bit_and v m ≡ bit_and w m → best_row l v b 0 i.rows ≡ row k r
  mask-decides k r q v e =
      let m : ℕ = bit_or r.care (mask_against_all l w b i.rows) in
      let joined : (j : ℕ) → bit_at m j ≡ max (bit_at r.care j) (bit_at (mask_against_all l w b i.rows) j) =
      bit-or r.care (mask_against_all l w b i.rows) in
      is-best l v b i.rows k r (same-best v m e (λ j o. omega (arith, joined j)) k r
      (λ j o. omega (arith, joined j)) (best-is l w b i.rows k r q))

-- and no condition of the row's care mask can be left out: a word with another value there takes another row, or none
pub care-tells : (i : Image) (l w b k : ℕ) (r : Row) → best_row l w b 0 i.rows ≡ row k r → (v j : ℕ) → bit_at r.care j ≡ 1
    → (bit_at v j ≡ bit_at w j → ⊥) → best_row l v b 0 i.rows ≡ row k r → ⊥
care-tells i l w b k r q v j o d z =
    let match : (u : ℕ) → best_row l u b 0 i.rows ≡ row k r → bit_and u r.care ≡ r.values = λ u y.
    let t : is_candidate l u b r ≡ true = (best-is l u b i.rows k r y).matches in
    eqb-true (bit_and u r.care) r.values
    (and-l (is_agreeing u r.care r.values) (r.bit == 2 || r.bit == b) (and-r (r.from == l) (is_match u b r) t)) in
    d (agree-bit v w r.care j (match v z ∙ sym (match w q)) o)
