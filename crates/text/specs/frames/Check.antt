-- Why a text is refused: refusals 1 to 3.
use Rattle.std.specs.Prelude.{ℕ, ◌+◌, ◌*◌, ◌%◌, Bool, ◌||◌, not, List, length, nat_lt, nat_le, ◌==◌, slice_index}
use Rattle.words.specs.lists.Numbers.{any, sum}
use Rattle.text.specs.digits.Digit.{digit_of}
use Rattle.text.specs.declared.frames.sizes.TheConstants.{LINE, DIGITS, LINE_FEED, BYTES}
use Rattle.text.specs.declared.frames.refusals.TheConstants.{BAD_LENGTH, BAD_CHARACTER, BAD_SUM}
use Rattle.text.specs.frames.Frame.{byte_at, frame_count}
use Rattle.text.specs.frames.Verdict.{Verdict, next, when, at_lowest}

-- 1: empty, parts of a unit left over, or more than the most; a unit is a frame's 23 characters or a record's 10 bytes
abbrev pub is_bad_length : ℕ → ℕ → ℕ → Bool
is_bad_length unit most n = n == 0 || not (n % unit == 0) || nat_lt most n

-- 2: a character of 0 to 21 that is no digit, or character 22 that is no line feed
unfoldable pub has_bad_form : List ℕ → ℕ → Bool
has_bad_form t f =
    any (λ k. nat_le 16 (digit_of (slice_index t (LINE * f + k)))) 0 DIGITS || not (slice_index t (LINE * f + DIGITS) == LINE_FEED)

-- 3
unfoldable pub has_bad_sum : List ℕ → ℕ → Bool
has_bad_sum t f = not (sum (byte_at t f) 0 BYTES % 256 == 0)

-- 1 to 3, of a text of so many characters at most
unfoldable pub text_verdict : ℕ → List ℕ → Verdict
text_verdict most t =
    next (when BAD_LENGTH (is_bad_length LINE most (length t))) λ _.
    next (at_lowest BAD_CHARACTER (has_bad_form t) (frame_count t)) λ _.
    at_lowest BAD_SUM (has_bad_sum t) (frame_count t)
