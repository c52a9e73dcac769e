-- `covering::blocks::shared_by` meets its contract: one row more leaves less to share, which all before it have too.
use Rattle.std.proofs.Common.{arith, rules}
use Rattle.covering.proofs.Sharing.{shares-first, shares-on}
use Rattle.covering.proofs.blocks.shared_by.Goals as goal

pub loop-g-init : goal.loop-g-init
loop-g-init c = search (rules, shares-first)

pub loop-g-preserved : goal.loop-g-preserved
loop-g-preserved c =
    shares-on _ _ _ _ _ _ _ c.loop-g.invariant (omega arith) c.pair-in-loop-g-2.type_inv
    c.pair-in-loop-g.ensures c.pair-in-loop-g-2.ensures
