use Rattle.std.proofs.Common.{arith}
use Rattle.std.proofs.lemmas.Grind.{common_steps}
use Rattle.ticks.proofs.stepping.StepCases.{high-stop}
use Rattle.ticks.proofs.stepping.tick_numbered.Goals as goal

pub returns-then-table-l : goal.returns-then-table-l
returns-then-table-l c = grind (arith, common_steps, high-stop)
