-- One frame: ten bytes and their sum byte as 23 characters, and a text that holds it at a place.
use Rattle.std.proofs.Common.{ℕ, zero, suc, ◌+◌, ◌*◌, ◌/◌, ◌%◌, ◌<◌, false, ◌≡◌, refl, ◌∙◌, ap, ap₂, List, [], slice_index, flat_map}
use Rattle.std.proofs.Common.{◌∷◌, ◌++◌, append_assoc, arith, length, length-append, get_or-append-add, eq-eqb}
use Rattle.std.proofs.Math.ListN.{get_or-append, get_or-eq_default}
use borrow.Author.Tests.{lt-leb}
use Rattle.std.proofs.lemmas.Grind.{common_steps}
use Rattle.words.specs.lists.Numbers.{sum}
use Rattle.std.specs.List.{AllByRecursion}
use Rattle.words.proofs.lists.Tests.{split}
use Rattle.words.proofs.lists.Searches.{any-none}
use Rattle.words.proofs.lists.Joins.{all-at, all-every, concat-append, length-concat, get_or-concat}
use Rattle.text.specs.digits.Digit.{digit_of}
use Rattle.text.proofs.digits.Digits.{digit-char}
use Rattle.text.specs.frames.Frame.{byte_at, byte_text, total, sum_byte, frame_text}
use Rattle.text.specs.frames.Check.{has_bad_form, has_bad_sum}

-- the two characters of a byte
pair-digit : (b t : ℕ) → b < 256 → t < 2 → digit_of (slice_index (byte_text b) t) < 16
pair-digit b zero h l = omega (arith, digit-char (b / 16) (omega arith))
pair-digit b (suc zero) h l = omega (arith, digit-char (b % 16) (omega arith))
pair-digit b (suc (suc t)) h l = absurd (omega arith)

pair-byte : (b : ℕ) → b < 256 → 16 * digit_of (slice_index (byte_text b) 0) + digit_of (slice_index (byte_text b) 1) ≡ b
pair-byte b h = omega (arith, digit-char (b / 16) (omega arith), digit-char (b % 16) (omega arith))

-- ten bytes
pub record Frame (bs : List ℕ) : Type 0 where
  pub ten : length bs ≡ 10
  pub bytes : (k : ℕ) → slice_index bs k < 256

pub frame-by : (bs : List ℕ) → length bs ≡ 10 → AllByRecursion (λ b. b < 256) bs → Frame bs
frame-by bs n a = grind (arith, common_steps, all-at, split, get_or-eq_default)

-- with the sum byte
abbrev pub eleven : List ℕ → List ℕ
eleven bs = bs ++ (sum_byte bs ∷ [])

pub total-snoc : (xs : List ℕ) (b : ℕ) → total (xs ++ (b ∷ [])) ≡ total xs + b
unfolding total
total-snoc [] b = omega arith
total-snoc (x ∷ xs) b = omega (arith, total-snoc xs b)

pub sum-places : (f : ℕ → ℕ) (xs : List ℕ) (a : ℕ) → ((i : ℕ) → i < length xs → f (a + i) ≡ slice_index xs i) → sum f a (length xs) ≡ total xs
unfolding sum total
sum-places f [] a h = refl
sum-places f (x ∷ xs) a h =
    ap₂ ◌+◌ (ap f (omega arith) ∙ h 0 (omega arith)) (sum-places f xs (suc a) (λ i l. ap f (omega arith) ∙ h (suc i) (omega arith)))

pub frame-as : (bs : List ℕ) → frame_text bs ≡ flat_map byte_text (eleven bs) ++ (10 ∷ [])
unfolding frame_text
frame-as bs = grind (arith, common_steps, append_assoc, concat-append)

pairs-two : (es : List ℕ) → AllByRecursion (λ x. length (byte_text x) ≡ 2) es
pairs-two es = all-every (λ x. length (byte_text x) ≡ 2) (λ x. refl) es

pub sum-small : (bs : List ℕ) → sum_byte bs < 256
sum-small bs = omega arith

module _ (bs : List ℕ) (F : Frame bs) where
  pub eleven-length : length (eleven bs) ≡ 11
  eleven-length = length-append bs (sum_byte bs ∷ []) ∙ omega (arith, F.ten)

  pairs-length : length (flat_map byte_text (eleven bs)) ≡ 22
  pairs-length = length-concat byte_text 2 (eleven bs) (pairs-two (eleven bs)) ∙ omega (arith, eleven-length)

  pub frame-length : length (frame_text bs) ≡ 23
  frame-length = ap length (frame-as bs) ∙ length-append (flat_map byte_text (eleven bs)) (10 ∷ []) ∙ omega (arith, pairs-length)

  pub eleven-at : (k : ℕ) → k < 10 → slice_index (eleven bs) k ≡ slice_index bs k
  eleven-at k h = get_or-append bs (sum_byte bs ∷ []) 0 k (omega (arith, F.ten))

  pub eleven-last : slice_index (eleven bs) 10 ≡ sum_byte bs
  eleven-last = ap (λ (k : ℕ). slice_index (eleven bs) k) (omega (arith, F.ten)) ∙ get_or-append-add bs (sum_byte bs ∷ []) 0 0

  pub eleven-small : (k : ℕ) → k < 11 → slice_index (eleven bs) k < 256
  eleven-small k h = grind (arith, common_steps, split, sum-small, eleven-at, eleven-last)

  pub frame-char : (k t : ℕ) → k < 11 → t < 2 → slice_index (frame_text bs) (2 * k + t) ≡ slice_index (byte_text (slice_index (eleven bs) k)) t
  frame-char k t h l =
      ap (λ (xs : List ℕ). slice_index xs (2 * k + t)) (frame-as bs)
      ∙ get_or-append (flat_map byte_text (eleven bs)) (10 ∷ []) 0 (2 * k + t) (omega (arith, pairs-length))
      ∙ get_or-concat byte_text 2 0 0 (eleven bs) (pairs-two (eleven bs)) k t (omega (arith, eleven-length)) l

  pub frame-feed : slice_index (frame_text bs) 22 ≡ 10
  frame-feed = grind (arith, common_steps, get_or-append-add, frame-as, pairs-length)

  -- a text that has this frame at f
  module _ (t : List ℕ) (f : ℕ) (here : (k : ℕ) → k < 23 → slice_index t (23 * f + k) ≡ slice_index (frame_text bs) k) where
    text-char : (k s : ℕ) → k < 11 → s < 2 → slice_index t (23 * f + (2 * k + s)) ≡ slice_index (byte_text (slice_index (eleven bs) k)) s
    text-char k s h l = here (2 * k + s) (omega arith) ∙ frame-char k s h l

    pub byte-is : (k : ℕ) → k < 11 → byte_at t f k ≡ slice_index (eleven bs) k
    byte-is k h = grind (arith, common_steps, eleven-small k h, text-char k 0 h (omega arith), text-char k 1 h (omega arith), pair-byte)

    char-small : (k : ℕ) → k < 22 → digit_of (slice_index t (23 * f + k)) < 16
    char-small k h = grind (arith, common_steps, eleven-small (k / 2) (omega arith), text-char (k / 2) (k % 2) (omega arith) (omega arith), pair-digit)

    pub good-form : has_bad_form t f ≡ false
    unfolding has_bad_form
    good-form = grind (arith, common_steps, lt-leb, any-none, eq-eqb, frame-feed, char-small)

    pub good-sum : has_bad_sum t f ≡ false
    unfolding has_bad_sum
    good-sum = grind (arith, common_steps, eq-eqb, total-snoc, sum-places, eleven-length, byte-is)
