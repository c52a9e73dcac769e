-- `grouping::parting::Round::blocks_part` meets its contract: the rows of label l from the next block on are left.
use Rattle.std.proofs.Common.{◌-◌}
use Rattle.tables.specs.Table.{first_on, end_on}
use Rattle.grouping.proofs.PartedBlocks.{Parting}
use Rattle.grouping.proofs.parting.Round.blocks_part.Given as goal

abbrev pub invariant-loop-from : goal.invariant-loop-from
invariant-loop-from l =
    let b = l.self.table.bytes.now in Parting b l.self.classes.now l.self.marks.now l.least l.m (end_on b l.l) (first_on b l.l) l.from

abbrev pub decreases-loop-from : goal.decreases-loop-from
decreases-loop-from l = l.end - l.from
