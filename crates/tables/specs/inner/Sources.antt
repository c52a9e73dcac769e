-- What a source of a table hands out.
use Rattle.std.specs.Prelude.{◌≡◌}
use Rattle.text.specs.frames.Verdict.{Verdict, fine}
use Rattle.image.specs.Image.{Image}
use Rattle.tables.specs.Table.{table_image}
use Rattle.tables.specs.declared.Table.{Table}

-- a table that holds the image of a source that is not refused
pub record Admits (v : Verdict) (i : Image) (t : Table) : Type 0 where
  pub accepted : v ≡ fine
  pub holds : table_image t.bytes.now ≡ i
