-- Two rows are together just where some word and bit match both.
use Rattle.std.specs.Prelude.{ℕ, ◌<◌, Bool, true, ◌≡◌, List, length, if◌then◌else◌}
use Rattle.text.specs.frames.Frame.{contents}
use Rattle.text.specs.frames.Verdict.{fine}
use Rattle.image.specs.Image.{Row, nth_row}
use Rattle.image.specs.Decode.{decoded_image}
use Rattle.image.specs.Check.{image_verdict}
use Rattle.rows.specs.Rows.{is_match}
use Rattle.covering.specs.Matched.{is_together}

-- a word and a bit that match both
pub record Common (r s : Row) : Type 0 where
  pub word : ℕ
  pub low : word < 65536
  pub bit : Bool
  pub first : is_match word (if bit then 1 else 0) r ≡ true
  pub second : is_match word (if bit then 1 else 0) s ≡ true

-- of the rows of an accepted image
abbrev pub TogetherCommon : Type 0
TogetherCommon =
    (t : List ℕ) → image_verdict t ≡ fine → let i = decoded_image (contents t) in
    (j k : ℕ) → j < length i.rows → k < length i.rows → is_together (nth_row i j) (nth_row i k) ≡ true
    → Common (nth_row i j) (nth_row i k)

-- of any two rows with values of 16 bits
abbrev pub CommonTogether : Type 0
CommonTogether =
    (r s : Row) (w b : ℕ) → r.values < 65536 → s.values < 65536 → is_match w b r ≡ true → is_match w b s ≡ true
    → is_together r s ≡ true
