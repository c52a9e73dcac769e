-- A table of an accepted image, as it is read and as it is prepared for ticks, is sound and holds the image that the text does.
use Rattle.std.proofs.Common.{ℕ, ◌<◌, ◌≡◌, List, arith, slice_index}
use Rattle.std.proofs.lemmas.Grind.{common_steps}
use Rattle.text.specs.frames.Frame.{contents}
use Rattle.text.specs.frames.Verdict.{fine}
use Rattle.image.specs.Decode.{row_in, decoded_image}
use Rattle.image.specs.Check.{table_verdict}
use Rattle.image.proofs.Accepted.{counted, accepted-sound, image-table, image-bytes}
use Rattle.tables.specs.Prepare.{noted_table}
use Rattle.tables.proofs.RangeLaws.{map-alike}
use Rattle.tables.proofs.Noted.{noted-size, noted-schemes, noted-last, noted-rows, noted-handler, noted-rows-from, noted-label, noted-late}
use Rattle.tables.proofs.Noted.{noted-row, noted-pair}
use Rattle.tables.proofs.Made.{MadeTable}
use Rattle.covering.specs.Matched.{is_uneven}
use Rattle.covering.specs.inner.CoveringContracts.{SoundTable}

module _ (b : List ℕ) where
  row-same : (k : ℕ) → row_in (noted_table b) k ≡ row_in b k
  row-same k = grind (arith, common_steps, noted-late, noted-pair, noted-row, noted-rows-from)

  pub noted-decoded : decoded_image (noted_table b) ≡ decoded_image b
  unfolding decoded_image
  noted-decoded = grind (arith, noted-rows, noted-schemes, map-alike, noted-handler, noted-late, noted-last, noted-label, row-same)

  module _ (ok : table_verdict b ≡ fine) (bytes : (k : ℕ) → slice_index b k < 256) where
    pub noted-table : SoundTable (noted_table b)
    noted-table = grind (arith, noted-decoded, accepted-sound b ok bytes, noted-size b, counted b ok, noted-rows-from b, noted-rows b)

module _ (t b : List ℕ) (made : MadeTable t b) where
  pub made-table : SoundTable b
  made-table = grind (arith, made.is, noted-table (contents t) (image-table t made.accepted) (image-bytes t made.accepted))

  pub made-uneven : is_uneven (decoded_image b) ≡ is_uneven (decoded_image (contents t))
  made-uneven = grind (arith, made.is, noted-decoded)
