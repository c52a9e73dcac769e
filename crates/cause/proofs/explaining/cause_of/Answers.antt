-- `cause::explaining::cause_of` meets its contract: the image is refused, or the cause is that on its table.
use Rattle.std.proofs.Common.{arith}
use Rattle.std.proofs.lemmas.Grind.{common_steps}
use Rattle.tables.proofs.Made.{noted-made}
use Rattle.cause.proofs.explaining.EntryCases.{image-ordered, image-untold, image-explained}
use Rattle.std.proofs.lemmas.Result.{err_from_is_err_and}
use Rattle.cause.proofs.explaining.cause_of.Goals as goal

pub returns-in_err-table : goal.returns-in_err-table
returns-in_err-table c = grind (arith, common_steps, err_from_is_err_and, image-untold)

pub cause_table-requires : goal.cause_table-requires
cause_table-requires c =
    let made = noted-made _ _ c.in_ok-table.ensures.admits.accepted c.in_ok-table.ensures.noted in
    image-ordered _ _ made

pub returns : goal.returns
returns c = grind (arith, common_steps, image-explained, noted-made)
