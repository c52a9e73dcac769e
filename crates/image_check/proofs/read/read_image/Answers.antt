-- `image_check::read::read_image` meets its contract: the answer is the text's refusal or the table's, and the buffer is as it was read.
use Rattle.std.proofs.Common.{arith}
use Rattle.std.proofs.lemmas.Grind.{common_steps}
use Rattle.image_check.proofs.ReadCases.{read-good, read-refused, front-size, front-length, read-done}
use Rattle.std.proofs.lemmas.Result.{err_from_is_err_and}
use Rattle.image_check.proofs.read.read_image.Goals as goal

pub returns-in_err-frames-clause-answered : goal.returns-in_err-frames-clause-answered
returns-in_err-frames-clause-answered c = grind (arith, common_steps, err_from_is_err_and, read-refused)

pub slice_bounds-check_table-end : goal.slice_bounds-check_table-end
slice_bounds-check_table-end c =
    let good = read-good _ c.read_text.ensures.answered c.in_ok-frames.was in omega (arith, good.most, c.read_text.auto.out)

pub slice_bounds-check_table-end-2 : goal.slice_bounds-check_table-end-2
slice_bounds-check_table-end-2 c =
    front-length (read-good _ c.read_text.ensures.answered c.in_ok-frames.was) _ c.read_text.ensures.stored

pub check_table-requires : goal.check_table-requires
check_table-requires c =
    let good = read-good _ c.read_text.ensures.answered c.in_ok-frames.was in
    omega (arith, front-size good _ c.read_text.ensures.stored, good.some)

pub returns-clause-answered : goal.returns-clause-answered
returns-clause-answered c =
    read-done (read-good _ c.read_text.ensures.answered c.in_ok-frames.was) _ c.read_text.ensures.stored _ c.check_table.ensures
