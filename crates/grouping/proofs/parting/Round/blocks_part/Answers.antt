-- `grouping::parting::Round::blocks_part` meets its contract: a block parts, or the rows behind it are left.
use Rattle.std.proofs.Common.{rules}
use Rattle.grouping.proofs.PartedBlocks.{parting-hit, parting-on, parting-over}
use Rattle.grouping.proofs.parting.Round.blocks_part.Goals as goal

pub returns-then-block_parts : goal.returns-then-block_parts
returns-then-block_parts c =
    search (rules, parting-hit)

pub loop-from-preserved : goal.loop-from-preserved
loop-from-preserved c =
    search (rules, parting-on)

pub returns : goal.returns
returns c = search (rules, parting-over)
