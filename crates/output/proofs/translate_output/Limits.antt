-- The translator's program prints the same when it reads no more than one character past the longest chart.
use Rattle.std.proofs.Common.{ℕ, ◌<◌, ◌≡◌, List, arith, length, take}
use Rattle.std.proofs.lemmas.Grind.{common_steps}
use Rattle.text.proofs.frames.Chains.{next-refused}
use Rattle.charts.specs.Entry.{read_verdict}
use Rattle.translator.specs.Entry.{translate_verdict}
use Rattle.output.specs.Lines.{refusal_line}
use Rattle.output.proofs.output_lines.Limits.{too-long, front-enough}
use Rattle.output.specs.TranslateProgram.{translate_output}

long-chart : (t : List ℕ) → 5888 < length t → translate_output t ≡ refusal_line 1 0
unfolding translate_output translate_verdict read_verdict
long-chart t h = grind (arith, common_steps, next-refused, too-long)

pub translate-front : (t : List ℕ) → translate_output (take 5889 t) ≡ translate_output t
translate-front = front-enough translate_output 5889 (refusal_line 1 0) (λ t h. long-chart t (omega arith))
