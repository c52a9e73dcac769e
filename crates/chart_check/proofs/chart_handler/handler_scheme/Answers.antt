-- `chart_check::chart_handler::handler_scheme` meets its contract.
use Rattle.std.proofs.Common.{refl, arith, rules}
use Rattle.std.proofs.lemmas.Grind.{common_steps}
use Rattle.words.specs.lists.Numbers.{highest}
use Rattle.charts.specs.Chart.{handler}
use Rattle.chart_check.proofs.chart_handler.HandlerLoops.{handler-mark, handler-pass}
use Rattle.chart_check.proofs.chart_handler.handler_scheme.Goals as goal
use Rattle.chart_check.proofs.chart_handler.handler_scheme.Goals.{then-marks_handler+then-highest-scheme}
use Rattle.chart_check.proofs.chart_handler.handler_scheme.Goals.{then-marks_handler+else-highest-scheme, else-marks_handler}

pub loop-v-init : goal.loop-v-init
unfolding highest
loop-v-init c = (search rules, search rules, refl)

pub loop-v-preserved : goal.loop-v-preserved
loop-v-preserved c = grind (arith, common_steps, handler-mark, handler-pass, c.loop-v.invariant.2)

pub returns : goal.returns
unfolding handler
returns c = grind (arith, common_steps, c.loop-v.invariant.2)
