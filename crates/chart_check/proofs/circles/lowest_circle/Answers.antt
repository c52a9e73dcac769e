-- `chart_check::circles::lowest_circle` meets its contract: at first all conditions are unfinished.
use Rattle.chart_check.proofs.finishing.FinishedCases.{finished-none}
use Rattle.std.proofs.Common.{arith}
use Rattle.std.proofs.lemmas.Grind.{common_steps}
use Rattle.chart_check.proofs.circles.lowest_circle.Goals as goal

pub finish_all-requires : goal.finish_all-requires
finish_all-requires c = grind (arith, common_steps, finished-none)
