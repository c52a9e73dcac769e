use Rattle.std.proofs.Common.{arith}
use Rattle.std.proofs.lemmas.Grind.{common_steps}
use Rattle.ticks.proofs.TickCases.{top-inside}
use Rattle.ticks.proofs.stepping.StepCases.{plain-stop, plain-steps}
use Rattle.ticks.proofs.stepping.tick_plain.Goals as goal

pub returns-then-next-ge-NO_LABEL : goal.returns-then-next-ge-NO_LABEL
returns-then-next-ge-NO_LABEL c = grind (arith, common_steps, plain-stop)

pub returns : goal.returns
returns c = grind (arith, common_steps, top-inside, plain-steps)
