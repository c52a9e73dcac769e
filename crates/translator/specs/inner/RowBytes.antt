-- Rows as bytes, as the functions that write them have them.
use Rattle.std.specs.Prelude.{ℕ, List, flat_map}
use Rattle.image.specs.Image.{Row, row_frame}

abbrev pub rows_bytes : List Row → List ℕ
rows_bytes = flat_map row_frame
