-- The frames that are written with the numbers of groups.
use Rattle.std.specs.Prelude.{ℕ, ◌-◌, List, slice_index}
use Rattle.text.specs.frames.Frame.{frame_text}
use Rattle.image.specs.Image.{Row}
use Rattle.translator.specs.inner.LabelBytes.{header_bytes}

abbrev pub header_piece : ℕ → ℕ → ℕ → ℕ → List ℕ
header_piece schemes groups rows handler = frame_text (header_bytes schemes (groups - 1) rows handler)

-- a row with the numbers that a buffer has
abbrev pub row_numbered_by : List ℕ → Row → Row
row_numbered_by numbers r =
    record { from = slice_index numbers r.from; care = r.care; values = r.values; bit = r.bit; next = slice_index numbers r.next }
