-- `rows::is_agreeing` meets its contract: the word and the bytes of the row are compared with their bytes swapped.
use Rattle.std.proofs.Common.{arith}
use Rattle.std.proofs.lemmas.Grind.{common_steps}
use Rattle.rows.proofs.Swaps.{swapped-agrees}
use Rattle.rows.proofs.is_agreeing.Goals as goal

pub returns : goal.returns
returns c = grind (arith, common_steps, swapped-agrees)
