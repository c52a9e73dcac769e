use Rattle.std.proofs.Common.{arith}
use Rattle.std.proofs.lemmas.Grind.{common_steps}
use Rattle.ticks.proofs.TickCases.{top-inside}
use Rattle.ticks.proofs.stepping.StepCases.{home-steps}
use Rattle.ticks.proofs.stepping.tick_home.Goals as goal

pub returns : goal.returns
returns c = grind (arith, common_steps, top-inside, home-steps)
