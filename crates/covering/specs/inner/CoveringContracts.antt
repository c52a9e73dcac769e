-- What the functions that try 23 ask and promise, by frames of the table.
use Rattle.std.specs.Prelude.{ℕ, ◌+◌, ◌-◌, ◌^◌, Bool, ◌||◌, not, List, ◌≡◌, if◌then◌else◌, ◌==◌}
use Rattle.std.specs.Int.Count.{ones}
use Rattle.words.specs.lists.Numbers.{sum}
use Rattle.std.specs.List.{list_any, range_with_len}
use Rattle.text.specs.frames.Frame.{size, field}
use Rattle.text.specs.frames.Sizes.{CONDITIONS, WORDS}
use Rattle.image.specs.declared.layout.TheConstants.{FROM, FUNCTION_BIT, NO_BIT}
use Rattle.image.specs.Image.{Row}
use Rattle.image.specs.Decode.{row_count, rows_from, row_in_frame, decoded_image}
use Rattle.image.specs.inner.Sound.{SoundImage}
use Rattle.covering.specs.Matched.{is_together}

-- a table of an accepted image, as it is read or prepared for ticks
pub record SoundTable (b : List ℕ) : Type 0 where
  pub image : SoundImage (decoded_image b)
  pub all : size b ≡ rows_from b + row_count b

-- a row of which only that is told which decides what it matches
abbrev pub row_with : ℕ → ℕ → ℕ → Row
row_with care values bit = record { from = 0; care = care; values = values; bit = bit; next = 0 }

-- some word and bit match the row and one of the n rows from frame first on
abbrev pub is_together_with_some : List ℕ → Row → ℕ → ℕ → Bool
is_together_with_some b r first n = list_any (λ g. is_together r (row_in_frame b g)) (range_with_len first n)

-- some word and bit match two of these rows
abbrev pub has_any_together : List ℕ → ℕ → ℕ → Bool
has_any_together b first n = list_any (λ f. is_together_with_some b (row_in_frame b f) first (f - first)) (range_with_len first n)

-- how many words a row matches with bit b, whatever its label
abbrev pub words_with : ℕ → Row → ℕ
words_with b r = if r.bit == NO_BIT || r.bit == b then 2 ^ (CONDITIONS - ones r.care) else 0

abbrev pub words_in : List ℕ → ℕ → ℕ → ℕ → ℕ
words_in b bit first n = sum (λ f. words_with bit (row_in_frame b f)) first n

-- the row in frame f asks for a function's bit
abbrev pub has_bit : List ℕ → ℕ → Bool
has_bit b f = not (field b f FUNCTION_BIT == NO_BIT)

-- of the n rows from frame first on, if they are those of one label, some word and bit match none or two
abbrev pub has_uneven_rows : List ℕ → ℕ → ℕ → Bool
has_uneven_rows b first n = not (words_in b 0 first n == WORDS) || not (words_in b 1 first n == WORDS) || has_any_together b first n

-- frame f holds no row of label l
abbrev pub is_other : List ℕ → ℕ → ℕ → Bool
is_other b l f = not (field b f FROM == l)
