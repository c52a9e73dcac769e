-- `covering::blocks::any_together` meets its contract: pairs within a block and those of it with rows behind it are all that a block takes away.
use Rattle.std.proofs.Common.{rules}
use Rattle.covering.proofs.Sharing.{within-hit, across-hit, blocks-on}
use Rattle.covering.proofs.blocks.any_together.Goals.{then-any_within-via-then-any_within, then-any_within-via-else-any_within+then-any_across}
use Rattle.covering.proofs.blocks.any_together.Goals as goal

pub returns-then-any_within : goal.returns-then-any_within
returns-then-any_within c = elim c.then-any_within.branch [
  | then-any_within-via-then-any_within w ↦
      search (rules, within-hit)
  | then-any_within-via-else-any_within+then-any_across w ↦
      search (rules, across-hit)
]

pub loop-from-preserved : goal.loop-from-preserved
loop-from-preserved c =
    search (rules, blocks-on)
