-- `covering::blocks::any_together` meets its contract: the pairs from the next block on are left.
use Rattle.std.proofs.Common.{◌-◌}
use Rattle.covering.proofs.Sharing.{InBlocks}
use Rattle.covering.proofs.blocks.any_together.Given as goal

abbrev pub invariant-loop-from : goal.invariant-loop-from
invariant-loop-from l = InBlocks l.table l.first l.end l.from

abbrev pub decreases-loop-from : goal.decreases-loop-from
decreases-loop-from l = l.end - l.from
