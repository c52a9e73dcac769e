-- `grouping::refining::group` meets its contract: the buffer holds the classes after k rounds, the marks are those of the last.
use Rattle.std.proofs.Common.{arith, rules}
use Rattle.grouping.proofs.GroupSteps.{rounding-start, rounding-now, rounding-advanced, rounding-on, rounding-rest, rounding-all}
use Rattle.grouping.proofs.refining.group.Goals as goal

pub loop-k-init : goal.loop-k-init
loop-k-init c =
    search (rules, rounding-start)

pub refine-requires-clause-refined : goal.refine-requires-clause-refined
refine-requires-clause-refined c = record { rounds = _; now = rounding-now _ c.requires _ _ _ _ _ _ c.loop-k.invariant }

pub mark_parted-requires-clause-advanced : goal.mark_parted-requires-clause-advanced
mark_parted-requires-clause-advanced c =
    search (rules, rounding-advanced)

pub returns-then-not-differ : goal.returns-then-not-differ
returns-then-not-differ c =
    search (rules, rounding-rest)

pub loop-k-preserved : goal.loop-k-preserved
loop-k-preserved c =
    rounding-on _ c.requires _ _ _ _ _ _ c.loop-k.invariant _ _ c.refine.array_long c.refine.ensures (search rules) _ _
    c.mark_parted.ensures.marked _ (omega (arith, c.put_bytes.auto.out, c.loop-k.invariant.room)) c.put_bytes.ensures

pub returns : goal.returns
returns c = search (rules, rounding-all)
