-- Refusal 23: a label from 2 up whose rows leave some word out, with one of the two bits, or match it more than once.
use Rattle.std.specs.Prelude.{ℕ, ◌-◌, Bool, ◌&&◌, ◌||◌, not, length, ◌==◌, filter}
use Rattle.std.specs.Int.Bits.{bit_and}
use Rattle.words.specs.lists.Numbers.{any}
use Rattle.text.specs.frames.Sizes.{WORDS}
use Rattle.image.specs.declared.layout.TheConstants.{NO_BIT}
use Rattle.image.specs.Image.{Image, Row}
use Rattle.rows.specs.Rows.{is_candidate}

-- how many rows of label l match word w and bit b
abbrev pub hits : Image → ℕ → ℕ → ℕ → ℕ
hits i l w b = length (filter (is_candidate l w b) i.rows)

-- with both bits, of which only the rows of a function call's label ask in an accepted image
abbrev pub is_uneven_word : Image → ℕ → ℕ → Bool
is_uneven_word i l w = any (λ b. not (hits i l w b == 1)) 0 2

abbrev pub is_uneven_label : Image → ℕ → Bool
is_uneven_label i l = any (is_uneven_word i l) 0 WORDS

unfoldable pub is_uneven : Image → Bool
is_uneven i = any (is_uneven_label i) 2 (length i.labels - 2)

-- some word and bit match both rows: where both care they have the same value
abbrev pub is_together : Row → Row → Bool
is_together r s =
    bit_and r.values s.care == bit_and s.values r.care
    && (r.bit == NO_BIT || s.bit == NO_BIT || r.bit == s.bit)
