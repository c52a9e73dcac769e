-- What the functions that join the labels of a table ask of it.
use Rattle.std.specs.Prelude.{ℕ, false, ◌≡◌, List}
use Rattle.image.specs.Decode.{decoded_image}
use Rattle.tables.specs.Table.{table_image}
use Rattle.covering.specs.Matched.{is_uneven}
use Rattle.covering.specs.inner.CoveringContracts.{SoundTable}
use Rattle.grouping.specs.inner.GroupingContracts.{Even}

-- a prepared table, read as one of either form
pub record ReadableTable (b : List ℕ) : Type 0 where
  pub table : SoundTable b
  pub holds : table_image b ≡ decoded_image b
  pub even : is_uneven (decoded_image b) ≡ false → Even b
