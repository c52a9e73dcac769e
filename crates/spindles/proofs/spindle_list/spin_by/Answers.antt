-- `spindles::spindle_list::spin_by` meets its contract: 25, and what the source is refused for.
use Rattle.spindles.proofs.spindle_list.Spun.{unnamed-spun, unsourced-spun}
use Rattle.spindles.proofs.spindle_list.spin_by.Goals as goal

pub returns-then-spindle-ge-SPINDLES : goal.returns-then-spindle-ge-SPINDLES
returns-then-spindle-ge-SPINDLES g c = unnamed-spun _ _ _ _ _ _ c.if-spindle-ge-SPINDLES.true

pub returns-in-Err : goal.returns-in-Err
returns-in-Err g c =
    unsourced-spun _ _ _ _ _ _ _ (g.met.S.Source.early _) c.in-Err.ensures.refuses c.if-spindle-ge-SPINDLES.false
