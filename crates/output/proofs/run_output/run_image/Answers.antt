use Rattle.std.proofs.Common.{rules}
use Rattle.output.specs.RunProgram.{run_output}
use Rattle.output.proofs.run_output.Limits.{run-front}
use Rattle.output.proofs.output_lines.Outcomes.{all-printed, front-printed, all-over, front-over, error-told}
use Rattle.output.proofs.run_output.run_image.Goals as goal

pub returns-in-Ok-clause-prints : goal.returns-in-Ok-clause-prints
returns-in-Ok-clause-prints g c =
    all-printed run_output 29832 run-front _ _ _ (search rules) c.in-Text.ensures.front c.run_text-count.ensures _ _ c.in-Ok.ensures.all

pub returns-in-Err-clause-prints : goal.returns-in-Err-clause-prints
returns-in-Err-clause-prints g c =
    front-printed run_output 29832 run-front _ _ _ (search rules) c.in-Text.ensures.front c.run_text-count.ensures _ _ c.in-Err.ensures.part

pub returns-in-Ok-clause-over : goal.returns-in-Ok-clause-over
returns-in-Ok-clause-over g c =
    all-over run_output 29832 run-front _ _ _ (search rules) c.in-Text.ensures.front c.run_text-count.ensures _ _ c.in-Ok.ensures.over

pub returns-in-Err-clause-over : goal.returns-in-Err-clause-over
returns-in-Err-clause-over g c =
    front-over run_output 29832 run-front _ _ _ (search rules) c.in-Text.ensures.front c.run_text-count.ensures _ _ _ _ c.in-Err.ensures.over_part

pub returns-in-Err-clause-errors : goal.returns-in-Err-clause-errors
returns-in-Err-clause-errors g c =
    error-told run_output 29832 run-front _ _ _ (search rules)
    c.in-Text.ensures.front c.run_text-count.ensures (g.W.Writer.fails c.args.writer.now) _ c.in-Err.ensures.fails
