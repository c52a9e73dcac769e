-- The run program prints the same when it reads no more than one character past the longest image.
use Rattle.std.proofs.Common.{ℕ, ◌<◌, ◌≡◌, List, arith, length, take}
use Rattle.std.proofs.lemmas.Grind.{common_steps}
use Rattle.text.proofs.frames.Chains.{next-refused}
use Rattle.image.specs.Check.{image_verdict}
use Rattle.runs.specs.Run.{run_verdict, run}
use Rattle.output.specs.Lines.{refusal_line}
use Rattle.output.proofs.output_lines.Limits.{too-long, front-enough}
use Rattle.output.specs.RunProgram.{run_output}

long-image : (t : List ℕ) → 29831 < length t → run_output t ≡ refusal_line 1 0
unfolding run_output run run_verdict image_verdict
long-image t h = grind (arith, common_steps, next-refused, too-long)

pub run-front : (t : List ℕ) → run_output (take 29832 t) ≡ run_output t
run-front = front-enough run_output 29832 (refusal_line 1 0) (λ t h. long-image t (omega arith))
