-- `tables::preparing::prepare_table` meets its contract: the image is refused and stays as it was read, or it is noted.
use Rattle.std.proofs.Common.{arith}
use Rattle.std.proofs.lemmas.Grind.{common_steps}
use Rattle.text.proofs.frames.Chains.{ok-fine}
use Rattle.tables.proofs.PrepareCases.{table-refused, frames-few, read-length, read-accepted, table-noted}
use Rattle.std.proofs.lemmas.Result.{err_from_is_err_and}
use Rattle.tables.proofs.preparing.prepare_table.Goals as goal

pub returns-in_err-read_image : goal.returns-in_err-read_image
returns-in_err-read_image c =
    let p = err_from_is_err_and c.from_residual.result c.from_residual.ensures.1 in
    rw (p.1, p.2) (table-refused _ _ c.read_image.ensures.answered _ c.in_err-read_image.was _ _ c.read_image.ensures.stored)

pub slice_bounds-note_rows-end : goal.slice_bounds-note_rows-end
slice_bounds-note_rows-end c = grind (arith, common_steps, ok-fine, frames-few)

pub slice_bounds-note_rows-end-2 : goal.slice_bounds-note_rows-end-2
slice_bounds-note_rows-end-2 c = grind (arith, common_steps, ok-fine, read-length)

pub note_rows-requires : goal.note_rows-requires
note_rows-requires c = grind (arith, common_steps, ok-fine, read-accepted)

pub returns : goal.returns
returns c = grind (arith, common_steps, ok-fine, table-noted)
