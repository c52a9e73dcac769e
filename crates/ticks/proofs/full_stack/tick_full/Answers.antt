use Rattle.std.proofs.Common.{arith}
use Rattle.std.proofs.lemmas.Grind.{common_steps}
use Rattle.ticks.proofs.TickCases.{tick-kept}
use Rattle.ticks.proofs.full_stack.FullCases.{drop-is, drop-steps}
use Rattle.ticks.proofs.full_stack.tick_full.Goals as goal

pub returns-then-keeps_full : goal.returns-then-keeps_full
returns-then-keeps_full c = grind (arith, common_steps, tick-kept)

pub returns : goal.returns
returns c = grind (arith, common_steps, drop-is, drop-steps)
