-- What the functions that read one frame ask and promise, by the names of the parts.
use Rattle.std.specs.Prelude.{ℕ, ◌+◌, ◌*◌, ◌%◌, ◌≤◌, ◌<◌, ◌≡◌, List, map, length, if◌then◌else◌, nat_lt, nat_le, slice_index}
use Rattle.words.specs.lists.Numbers.{any, range}
use Rattle.words.specs.lists.Sequences.{written}
use Rattle.text.specs.digits.Digit.{digit_of}
use Rattle.text.specs.declared.frames.sizes.TheConstants.{LINE, DIGITS, FRAME}
use Rattle.text.specs.frames.Frame.{byte_at}
use Rattle.text.specs.frames.Check.{has_bad_form, has_bad_sum}
use Rattle.text.specs.declared.frame_reading.FrameDigits.{FrameDigits}
use Rattle.text.specs.declared.frame_reading.Faults.{Faults}

-- the digit of character k from an offset on
abbrev pub digit_at : List ℕ → ℕ → ℕ → ℕ
digit_at t from k = digit_of (slice_index t (from + k))

-- the digits of characters 0 to 15, then of 6 to 21, and whether one of these is no digit
pub record DigitsRead (t : List ℕ) (from : ℕ) (r : FrameDigits) : Type 0 where
  pub size : length r.digits ≡ 32
  pub front : (i : ℕ) → i < 16 → slice_index r.digits i ≡ digit_at t from i
  pub back : (i : ℕ) → i < 16 → slice_index r.digits (16 + i) ≡ digit_at t from (6 + i)
  pub form : r.form ≡ any (λ k. nat_le 16 (digit_at t from k)) 0 DIGITS

-- where the digits of byte k stand among these, and the byte, as it is stored
abbrev pub place_of : ℕ → ℕ
place_of k = if nat_lt k 8 then 2 * k else 2 * k + 10

abbrev pub value_of : List ℕ → ℕ → ℕ
value_of digits k = (16 * slice_index digits (place_of k) + slice_index digits (place_of k + 1)) % 256

-- frame f, and the ten bytes that are stored of it; they are its own where 2 does not refuse it
abbrev pub stored_bytes : List ℕ → ℕ → List ℕ
stored_bytes t f = map (λ k. byte_at t f k % 256) (range 0 FRAME)

pub record FrameAsked (t : List ℕ) (f : ℕ) (out : List ℕ) : Type 0 where
  pub whole : LINE * f + LINE ≤ length t
  pub room : FRAME * f + FRAME ≤ length out

pub record FrameRead (t : List ℕ) (f : ℕ) (old : List ℕ) (r : Faults) (out : List ℕ) : Type 0 where
  pub form : r.form ≡ has_bad_form t f
  pub sum : r.sum ≡ has_bad_sum t f
  pub buffer : out ≡ written old (FRAME * f) (stored_bytes t f)
