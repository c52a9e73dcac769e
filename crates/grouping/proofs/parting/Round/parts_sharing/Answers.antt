-- `grouping::parting::Round::parts_sharing` meets its contract: a row that does not agree with what others share parts from none of them.
use Rattle.std.proofs.Common.{arith}
use Rattle.grouping.proofs.PartedBlocks.{parts-none}
use Rattle.grouping.proofs.parting.Round.parts_sharing.Goals as goal

pub returns-else-agrees : goal.returns-else-agrees
returns-else-agrees c = grind (arith, parts-none)
