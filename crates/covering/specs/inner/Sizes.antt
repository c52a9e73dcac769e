-- Refusal 23 without trying every word: no two rows of one label can match one word and bit, and for each label from 2 up and each bit the
-- numbers of words that its rows match sum up to 65,536.
use Rattle.std.specs.Prelude.{ℕ, ◌-◌, ◌^◌, Bool, ◌&&◌, ◌||◌, not, length, if◌then◌else◌, ◌==◌}
use Rattle.std.specs.Int.Count.{ones}
use Rattle.words.specs.lists.Numbers.{any, sum}
use Rattle.text.specs.frames.Sizes.{CONDITIONS, WORDS}
use Rattle.image.specs.declared.layout.TheConstants.{NO_BIT}
use Rattle.image.specs.Image.{Image, Row, nth_row}
use Rattle.covering.specs.Matched.{is_together}

abbrev pub is_overlap : Row → Row → Bool
is_overlap r s = r.from == s.from && is_together r s

-- a row overlaps with one before it
unfoldable pub has_overlap : Image → Bool
has_overlap i = any (λ j. any (λ k. is_overlap (nth_row i k) (nth_row i j)) 0 j) 0 (length i.rows)

-- how many words a row of label l matches, with bit b
abbrev pub words_matched : ℕ → ℕ → Row → ℕ
words_matched l b r = if r.from == l && (r.bit == NO_BIT || r.bit == b) then 2 ^ (CONDITIONS - ones r.care) else 0

unfoldable pub covered_count : Image → ℕ → ℕ → ℕ
covered_count i l b = sum (λ k. words_matched l b (nth_row i k)) 0 (length i.rows)

abbrev pub has_gap : Image → ℕ → Bool
has_gap i l = not (covered_count i l 0 == WORDS) || not (covered_count i l 1 == WORDS)

unfoldable pub is_uneven_by_sizes : Image → Bool
is_uneven_by_sizes i = has_overlap i || any (has_gap i) 2 (length i.labels - 2)
