use Rattle.std.proofs.Common.{arith}
use Rattle.std.proofs.lemmas.Grind.{common_steps}
use Rattle.ticks.proofs.calls.CalleeCases.{first-entry, callee-read}
use Rattle.ticks.proofs.calls.callee_of.Goals as goal

pub returns-then-server-eq0 : goal.returns-then-server-eq0
returns-then-server-eq0 c = grind (arith, common_steps, first-entry, callee-read)
