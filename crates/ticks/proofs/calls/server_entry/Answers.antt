use Rattle.std.proofs.Common.{arith}
use Rattle.std.proofs.lemmas.Grind.{common_steps}
use Rattle.ticks.proofs.calls.CalleeCases.{server-none, server-entry}
use Rattle.ticks.proofs.calls.server_entry.Goals as goal

pub returns-then-table-server : goal.returns-then-table-server
returns-then-table-server c = grind (arith, common_steps, server-none)

pub returns : goal.returns
returns c = grind (arith, common_steps, server-entry)
