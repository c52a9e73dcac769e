-- `covering::blocks::meets_block` meets its contract: a row that does not agree with what others share meets none of them.
use Rattle.std.proofs.Common.{arith}
use Rattle.covering.proofs.Sharing.{differs-from-all}
use Rattle.covering.proofs.blocks.meets_block.Goals as goal

pub returns-else-agrees : goal.returns-else-agrees
returns-else-agrees c =
    grind (arith, differs-from-all)
