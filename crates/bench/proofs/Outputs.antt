-- What the two programs print on these charts and images, computed.
use Rattle.std.proofs.Common.{refl}
use Rattle.output.specs.Lines.{refusal_line, code_line}
use Rattle.output.specs.TranslateProgram.{translate_output}
use Rattle.output.specs.RunProgram.{run_output}
use Rattle.bench.specs.Bench.{chart_p, image_p, chart_circle}
use Rattle.bench.specs.Outputs.{PrintedCases, chart_endless, chart_dropped, chart_held}
use Rattle.bench.proofs.Computing.{translating, running}

pub printed-cases : PrintedCases
unfolding translating running refusal_line code_line translate_output run_output chart_p image_p chart_circle chart_endless chart_dropped
    chart_held
printed-cases = record {
  translate-p = refl;
  translate-empty = refl;
  translate-circle = refl;
  translate-mark = refl;
  high-index = refl;
  run-p = refl;
  run-held = refl;
  run-endless = refl;
  run-dropped = refl;
  run-empty = refl;
  run-chart = refl;
}
