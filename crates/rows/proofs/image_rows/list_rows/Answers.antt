-- `rows::image_rows::list_rows` meets its contract: the image is refused, or its table is listed.
use Rattle.std.proofs.Common.{arith}
use Rattle.std.proofs.lemmas.Grind.{common_steps}
use Rattle.tables.proofs.Made.{noted-made}
use Rattle.rows.proofs.image_rows.EntryCases.{image-refused, made-listable, image-lists}
use Rattle.std.proofs.lemmas.Result.{err_from_is_err_and}
use Rattle.rows.proofs.image_rows.list_rows.Goals as goal

pub returns-in_err-table : goal.returns-in_err-table
returns-in_err-table c = grind (arith, common_steps, image-refused, err_from_is_err_and)

pub list_table-requires : goal.list_table-requires
list_table-requires c = grind (arith, common_steps, noted-made, made-listable)

pub returns : goal.returns
returns c =
    let made = noted-made _ _ c.in_ok-table.ensures.admits.accepted c.in_ok-table.ensures.noted in
    image-lists _ _ made _ _ _ _ _ c.list_table.ensures
