-- `tables::preparing::prepare` meets its contract: the image is refused, the buffer has no room, or the table is copied to its front.
use Rattle.std.proofs.Common.{arith}
use Rattle.std.proofs.lemmas.Grind.{common_steps}
use Rattle.tables.proofs.PrepareCases.{image-refused, image-short, image-done}
use Rattle.std.proofs.lemmas.Result.{err_from_is_err_and}
use Rattle.tables.proofs.preparing.prepare.Goals as goal

pub returns-in_err-made : goal.returns-in_err-made
returns-in_err-made c = grind (arith, common_steps, err_from_is_err_and, image-refused)

pub returns-then-table-n : goal.returns-then-table-n
returns-then-table-n c = grind (arith, common_steps, image-short)

pub returns : goal.returns
returns c =
    image-done _ _ c.in_ok-made.ensures.admits.accepted _ c.in_ok-made.ensures.noted c.if-table-n.false _ c.put_bytes.ensures
