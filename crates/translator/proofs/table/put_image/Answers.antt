-- `translator::put_image`: the bytes of the table's frames, and then their text.
use Rattle.std.proofs.Common.{arith}
use Rattle.translator.specs.Table.{table}
use Rattle.translator.proofs.ImageSteps.{text-room}
use Rattle.translator.proofs.ImageBytes.{image-spread}
use Rattle.translator.proofs.table.put_image.Goals as goal

pub spread-requires : goal.spread-requires
spread-requires c = omega (arith, text-room c.requires c.put_table-end.ensures, c.put_table-end.auto.out)

pub overflow_mul-result : goal.overflow_mul-result
overflow_mul-result c = omega (arith, text-room c.requires c.put_table-end.ensures, c.well_formed)

pub returns : goal.returns
returns c =
    image-spread (table c.args.records.now) _ _ _ c.put_table-end.ensures (text-room c.requires c.put_table-end.ensures) _ c.spread.ensures
