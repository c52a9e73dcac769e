-- A frame that is read: the digits of its characters, its bytes and their sum.
use Rattle.std.proofs.Common.{◌≡◌, refl, sym, ◌∙◌, ap, ◌⊎◌, inl, inr, ⊎_elim, Bool, true, false, not, ◌||◌, List, map, ℕ, ◌+◌, ◌-◌, nat_lt, nat_le, ◌==◌, slice_index}
use Rattle.std.proofs.Common.{◌*◌, ◌%◌, ◌≤◌, ◌<◌, zero-add, add-one, arith, lt-ltb, le-ltb, length, set}
use Rattle.std.proofs.Common.{length-set, get_or-set_same, get_or-set_other}
use Rattle.std.proofs.lemmas.Grind.{common_steps}
use Rattle.words.specs.lists.Numbers.{any, sum, range}
use Rattle.words.specs.lists.Sequences.{written}
use Rattle.std.proofs.lemmas.Bool.{cond-true, cond-false}
use Rattle.words.proofs.lists.Tests.{cases, split, or-true-l, or-true-r, or-none}
use Rattle.words.proofs.lists.Ranges.{get_or-map-range}
use Rattle.words.proofs.lists.Searches.{any-some, any-true, any-false, any-none, any-snoc, sum-turn}
use Rattle.words.proofs.lists.Fills.{ValuesFrom, values-none, values-turn, values-all}
use Rattle.text.specs.frames.Frame.{byte_at}
use Rattle.text.specs.frames.Check.{has_bad_form, has_bad_sum}
use Rattle.text.specs.inner.FrameReads.{stored_bytes, digit_at, DigitsRead, place_of, value_of}
use Rattle.text.specs.declared.frame_reading.FrameDigits.{FrameDigits}

-- ---- its digits
-- character k from an offset on is no digit
abbrev pub is_no_digit : List ℕ → ℕ → ℕ → Bool
is_no_digit t from k = nat_le 16 (digit_at t from k)

-- 0 to 15 and 6 to 21 are 0 to 21
any-whole : (p : ℕ → Bool) → (any p 0 16 || any p 6 16) ≡ any p 0 22
any-whole p = go (cases (any p 0 22))
  where
    go : (any p 0 22 ≡ true) ⊎ (any p 0 22 ≡ false) → (any p 0 16 || any p 6 16) ≡ any p 0 22
    go (inl t) =
        let r = any-some p 0 22 t in
        ⊎_elim (λ (l : r.0 < 16). or-true-l (any p 0 16) (any p 6 16) (any-true p 0 16 r.0 (omega arith) (omega arith) r.3))
        (λ (l : 16 ≤ r.0). or-true-r (any p 0 16) (any p 6 16) (any-true p 6 16 r.0 (omega arith) (omega (arith, r.2)) r.3))
        (split r.0 16)
        ∙ sym t
    go (inr n) =
        or-none (any p 0 16) (any p 6 16) (any-none p 0 16 (λ k l. any-false p 0 22 n (0 + k) (omega arith) (omega arith)))
        (any-none p 6 16 (λ k l. any-false p 0 22 n (6 + k) (omega arith) (omega arith)))
        ∙ sym n

-- i characters of sixteen are taken, from 0 on and from 6 on
pub record Taken (t : List ℕ) (from : ℕ) (digits : List ℕ) (bad : Bool) (i : ℕ) : Type 0 where
  pub low : i ≤ 16
  pub size : length digits ≡ 32
  pub front : (j : ℕ) → j < i → slice_index digits j ≡ digit_at t from j
  pub back : (j : ℕ) → j < i → slice_index digits (16 + j) ≡ digit_at t from (6 + j)
  pub form : bad ≡ (any (is_no_digit t from) 0 i || any (is_no_digit t from) 6 i)

pub taken-none : (t : List ℕ) (from : ℕ) (digits : List ℕ) → length digits ≡ 32 → Taken t from digits false 0
unfolding any
taken-none t from digits e = grind (arith, common_steps)

module _ (t : List ℕ) (from : ℕ) (digits : List ℕ) (bad : Bool) (i : ℕ) (done : Taken t from digits bad i) where
  pub taken-turn : (x y : ℕ) → i < 16 → x ≡ digit_at t from i → y ≡ digit_at t from (6 + i)
      → Taken t from (set (set digits i x) (16 + i) y) ((bad || nat_le 16 x) || nat_le 16 y) (i + 1)
  taken-turn x y h e q =
      let p : ℕ → Bool = is_no_digit t from in
      let one : List ℕ = set digits i x in
      let more : (m : ℕ) → any p m (i + 1) ≡ (any p m i || p (m + i)) = λ m. ap (any p m) (add-one i) ∙ any-snoc p m i in
      grind (
        arith,
        common_steps,
        get_or-set_same digits i x 0,
        get_or-set_same one (16 + i) y 0,
        length-set one (16 + i) y,
        length-set digits i x,
        get_or-set_other one (16 + i),
        get_or-set_other digits i,
        get_or-set_other one (16 + i) i y 0 (λ r. omega arith),
        zero-add i,
      )

  pub taken-all : 16 ≤ i → DigitsRead t from (record { digits = digits; form = bad })
  taken-all h =
      let all : i ≡ 16 = omega (arith, done.low) in
      grind (arith, common_steps, any-whole)

-- ---- its bytes
-- byte k of frame f, as it is stored
abbrev pub stored : List ℕ → ℕ → ℕ → ℕ
stored t f k = byte_at t f k % 256

place-low : (k : ℕ) → k < 8 → place_of k ≡ 2 * k
place-low k h = cond-true (nat_lt k 8) (2 * k) (2 * k + 10) (lt-ltb k 8 h)

place-high : (k : ℕ) → 8 ≤ k → place_of k ≡ 2 * k + 10
place-high k h = cond-false (nat_lt k 8) (2 * k) (2 * k + 10) (le-ltb k 8 h)

pub value-made : (digits : List ℕ) (k i : ℕ) → i ≡ place_of k → (16 * slice_index digits i + slice_index digits (i + 1)) % 256 ≡ value_of digits k
value-made digits k i e = ap (λ (j : ℕ). (16 * slice_index digits j + slice_index digits (j + 1)) % 256) e

-- the value of byte k is made of its own two characters
module _ (t : List ℕ) (f : ℕ) (r : FrameDigits) (read : DigitsRead t (23 * f) r) where
  value-is : (k i : ℕ) → place_of k ≡ i → slice_index r.digits i ≡ digit_at t (23 * f) (2 * k)
      → slice_index r.digits (i + 1) ≡ digit_at t (23 * f) (2 * k + 1)
      → value_of r.digits k ≡ stored t f k
  value-is k i p high low = grind (arith, common_steps, value-made)

  pub value-stored : (k : ℕ) → k < 11 → value_of r.digits k ≡ stored t f k
  value-stored k h = ⊎_elim low high (split k 8)
    where
      low : k < 8 → value_of r.digits k ≡ stored t f k
      low l = value-is k (2 * k) (place-low k l) (read.front (2 * k) (omega arith)) (read.front (2 * k + 1) (omega arith))

      back : (i j : ℕ) → i ≡ 16 + j → j < 16 → slice_index r.digits i ≡ digit_at t (23 * f) (6 + j)
      back i j e g = ap (λ (m : ℕ). slice_index r.digits m) e ∙ read.back j g

      high : 8 ≤ k → value_of r.digits k ≡ stored t f k
      high l =
          value-is k (2 * k + 10) (place-high k l)
          (back (2 * k + 10) (2 * k - 6) (omega arith) (omega arith) ∙ ap (digit_at t (23 * f)) (omega arith))
          (back (2 * k + 10 + 1) (2 * k - 5) (omega arith) (omega arith) ∙ ap (digit_at t (23 * f)) (omega arith))

  pub values-at : (values : List ℕ) → values ≡ map (value_of r.digits) (range 0 11) → (k : ℕ) → k < 11 → slice_index values k ≡ stored t f k
  values-at values e k h =
      ap (λ (xs : List ℕ). slice_index xs k) e ∙ get_or-map-range (value_of r.digits) 0 0 11 k h
      ∙ ap (value_of r.digits) (zero-add k) ∙ value-stored k h

  pub form-end : (r.form || not (slice_index t (23 * f + 22) == 10)) ≡ has_bad_form t f
  unfolding has_bad_form
  form-end = ap (λ (x : Bool). x || not (slice_index t (23 * f + 22) == 10)) read.form

-- k bytes of ten are added and stored
pub record Stored (t : List ℕ) (f : ℕ) (out₀ out : List ℕ) (total k : ℕ) : Type 0 where
  pub small : total ≤ k * 255
  pub added : total % 256 ≡ sum (byte_at t f) 0 k % 256
  pub values : ValuesFrom (stored t f) out₀ out (10 * f) 10 k

pub stored-none : (t : List ℕ) (f : ℕ) (out₀ : List ℕ) → Stored t f out₀ out₀ 0 0
unfolding sum
stored-none t f out₀ = record { small = omega arith; added = refl; values = values-none _ _ _ _ }

-- the sum of the bytes as stored is that of the bytes, modulo 256
sum-more : (g : ℕ → ℕ) (s k v : ℕ) → s % 256 ≡ sum g 0 k % 256 → v ≡ g k % 256 → (s + v) % 256 ≡ sum g 0 (k + 1) % 256
sum-more g s k v e q = grind (arith, common_steps, sum-turn)

module _ (t : List ℕ) (f : ℕ) (out₀ out : List ℕ) (total k : ℕ) (done : Stored t f out₀ out total k) where
  pub stored-turn : (v : ℕ) → 10 * f + 10 ≤ length out₀ → k < 10 → v ≡ stored t f k
      → Stored t f out₀ (set out (10 * f + k) v) (total + v) (k + 1)
  stored-turn v room h e = record {
    small = omega (arith, done.small);
    added = sum-more (byte_at t f) total k v done.added e;
    values = values-turn (stored t f) out₀ (10 * f) 10 out k v room done.values h e;
  }

  module _ (h : 10 ≤ k) where
    ten : k ≡ 10
    ten = omega (arith, done.values.low)

    pub sum-end : (v : ℕ) → v ≡ stored t f 10 → not ((total + v) % 256 == 0) ≡ has_bad_sum t f
    unfolding has_bad_sum
    sum-end v e =
        ap (λ (n : ℕ). not (n == 0)) (sum-more (byte_at t f) total 10 v (done.added ∙ ap (λ (i : ℕ). sum (byte_at t f) 0 i % 256) ten) e)

    pub stored-end : out ≡ written out₀ (10 * f) (stored_bytes t f)
    stored-end = values-all (stored t f) out₀ (10 * f) 10 out k done.values h
