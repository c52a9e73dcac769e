-- `output::translate_output::translate_text` meets its contract: the image stands in the buffer, or at its front the refusal's frame.
use Rattle.output.proofs.translate_output.Translations.{image-printed, refusal-printed}
use Rattle.std.proofs.Common.{rules}
use Rattle.output.proofs.translate_output.translate_text.Goals as goal

pub returns-in-Ok : goal.returns-in-Ok
returns-in-Ok c =
    let translate = c.translate-answer in
    let answered = translate.ensures.answered in
    let left = translate.ensures.written in
    image-printed _ _ _ answered _ _ c.in-Ok.is left

pub returns-in-Err : goal.returns-in-Err
returns-in-Err c =
    let translate = c.translate-answer in
    let answered = translate.ensures.answered in
    let left = translate.ensures.written in
    refusal-printed _ _ _ answered _ c.in-Err.is (search rules) _ _ c.number.ensures c.index.ensures _ _ left c.put_refusal.ensures
