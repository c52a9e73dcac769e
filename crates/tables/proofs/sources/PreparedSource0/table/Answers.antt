use Rattle.std.proofs.Common.{arith}
use Rattle.std.proofs.lemmas.Grind.{common_steps}
use Rattle.tables.proofs.Front.{front-image}
use Rattle.tables.proofs.Told.{told-whole}
use Rattle.tables.proofs.sources.PreparedSource0.table.Goals as goal

pub of-requires : goal.of-requires
of-requires c = told-whole _ _ _ c.front_length.ensures c.in-Some.is

pub returns-in-Some-clause-admits : goal.returns-in-Some-clause-admits
returns-in-Some-clause-admits c = grind (arith, common_steps, front-image)
