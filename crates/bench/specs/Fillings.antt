-- Cases of how often the stack fills: the bench sheet's image and one that lacks a row, a drop that stops nothing, lists without words
-- and words without conditions, and each bound of 28.
use Rattle.std.specs.Prelude.{ℕ, ◌≡◌, List, [], ◌∷◌}
use Rattle.text.specs.frames.Answer.{reply_number}
use Rattle.fillings.specs.Counts.{FillingsOutcome, count_fillings}
use Rattle.bench.specs.Bench.{lines, image_p}
use Rattle.bench.specs.Handler.{image_handler}

-- without the row that leads label 3 on a 1 to label 4
unfoldable pub image_no_row : List ℕ
image_no_row = lines (
    "0F020400030000000000E8" ∷ "10010200000000000000ED" ∷ "10020300000000000000EB" ∷ "11000400010000000000EA"
    ∷ "11010300000000000000EB" ∷ "11020102010000000001E8" ∷ "11030000020000000000EA" ∷ "11040102020000000002E4"
    ∷ "12020000000002000000EA" ∷ "12030001000002010000E7" ∷ "12040000000002010000E7" ∷ [])

-- the number answered and the three counts
abbrev pub shown_fillings : FillingsOutcome → List ℕ
shown_fillings r = reply_number r.reply ∷ r.ended ∷ r.full ∷ r.unmatched ∷ []

pub record FillingCases : Type 0 where
  pub filled : shown_fillings (count_fillings image_p 3 7 1) ≡ 0 ∷ 96 ∷ 32 ∷ 0 ∷ []
  pub lacking : shown_fillings (count_fillings image_no_row 3 7 1) ≡ 0 ∷ 32 ∷ 0 ∷ 96 ∷ []
  -- one place: the first call drops to the handler, whose own call is refused
  pub dropped : shown_fillings (count_fillings image_handler 1 4 1) ≡ 0 ∷ 8 ∷ 8 ∷ 0 ∷ []
  -- no words are one list, and so are words without conditions
  pub no-words : shown_fillings (count_fillings image_p 2 0 16) ≡ 0 ∷ 1 ∷ 0 ∷ 0 ∷ []
  pub no-conditions : shown_fillings (count_fillings image_p 1 2 0) ≡ 0 ∷ 0 ∷ 1 ∷ 0 ∷ []
  -- 28: 17 conditions, 65,537 words, a product of 17, and one that wraps to 0 in 64 bits
  pub conditions-17 : shown_fillings (count_fillings image_p 2 0 17) ≡ 28 ∷ 0 ∷ 0 ∷ 0 ∷ []
  pub words-65537 : shown_fillings (count_fillings image_p 2 65537 0) ≡ 28 ∷ 0 ∷ 0 ∷ 0 ∷ []
  pub product-17 : shown_fillings (count_fillings image_p 2 17 1) ≡ 28 ∷ 0 ∷ 0 ∷ 0 ∷ []
  pub product-wraps : shown_fillings (count_fillings image_p 2 9223372036854775808 2) ≡ 28 ∷ 0 ∷ 0 ∷ 0 ∷ []
  -- the image is tried before the size, and the size before 28
  pub image-first : shown_fillings (count_fillings [] 0 17 1) ≡ 1 ∷ 0 ∷ 0 ∷ 0 ∷ []
  pub size-first : shown_fillings (count_fillings image_p 33 17 1) ≡ 14 ∷ 0 ∷ 0 ∷ 0 ∷ []
