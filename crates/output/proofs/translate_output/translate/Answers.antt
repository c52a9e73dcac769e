use Rattle.std.proofs.Common.{rules}
use Rattle.output.specs.TranslateProgram.{translate_output}
use Rattle.output.proofs.translate_output.Limits.{translate-front}
use Rattle.output.proofs.output_lines.Outcomes.{all-printed, front-printed, all-over, front-over, error-told}
use Rattle.output.proofs.translate_output.translate.Goals as goal

pub returns-in-Ok-clause-prints : goal.returns-in-Ok-clause-prints
returns-in-Ok-clause-prints g c =
    all-printed translate_output 5889 translate-front _ _ _ (search rules)
    c.in-Text.ensures.front c.translate_text-count.ensures _ _ c.in-Ok.ensures.all

pub returns-in-Err-clause-prints : goal.returns-in-Err-clause-prints
returns-in-Err-clause-prints g c =
    front-printed translate_output 5889 translate-front _ _ _ (search rules)
    c.in-Text.ensures.front c.translate_text-count.ensures _ _ c.in-Err.ensures.part

pub returns-in-Ok-clause-over : goal.returns-in-Ok-clause-over
returns-in-Ok-clause-over g c =
    all-over translate_output 5889 translate-front _ _ _ (search rules)
    c.in-Text.ensures.front c.translate_text-count.ensures _ _ c.in-Ok.ensures.over

pub returns-in-Err-clause-over : goal.returns-in-Err-clause-over
returns-in-Err-clause-over g c =
    front-over translate_output 5889 translate-front _ _ _ (search rules)
    c.in-Text.ensures.front c.translate_text-count.ensures _ _ _ _ c.in-Err.ensures.over_part

pub returns-in-Err-clause-errors : goal.returns-in-Err-clause-errors
returns-in-Err-clause-errors g c =
    error-told translate_output 5889 translate-front _ _ _ (search rules)
    c.in-Text.ensures.front c.translate_text-count.ensures (g.W.Writer.fails c.args.writer.now) _ c.in-Err.ensures.fails
