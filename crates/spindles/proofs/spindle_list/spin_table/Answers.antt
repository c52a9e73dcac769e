-- `spindles::spindle_list::spin_table` meets its contract: the list is refused, or the turn is put into it.
use Rattle.spindles.proofs.spindle_list.Spun.{summed-low, unfit-spun, turn-spun}
use Rattle.spindles.proofs.spindle_list.spin_table.Goals as goal

pub returns-then-states-ne-SPINDLES : goal.returns-then-states-ne-SPINDLES
returns-then-states-ne-SPINDLES c = unfit-spun _ _ _ _ _ c.if-states-ne-SPINDLES.true c.requires

pub turn-requires : goal.turn-requires
turn-requires c = summed-low _ _ _ _ c.if-states-ne-SPINDLES.false c.requires c.depth_sum-sum.ensures

pub returns : goal.returns
returns c = turn-spun _ _ _ _ _ _ _ _ _ c.if-states-ne-SPINDLES.false c.requires c.depth_sum-sum.ensures c.turn.ensures
