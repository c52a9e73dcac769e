-- `grouping::first_classes::class_along` meets its contract: a label that is passed over holds something else.
use Rattle.std.proofs.Common.{arith, rules}
use Rattle.grouping.proofs.Links.{along-start, along-on, along-found, along-over}
use Rattle.grouping.proofs.first_classes.class_along.Goals as goal

pub loop-m-init : goal.loop-m-init
loop-m-init c = search (rules, along-start)

pub loop-m-preserved : goal.loop-m-preserved
loop-m-preserved c =
    along-on _ _ _ _ c.requires.linked c.loop-m.invariant c.is_same.result (cc) (omega arith) c.if-is_same.false

pub returns-then-is_same : goal.returns-then-is_same
returns-then-is_same c =
    search (rules, along-found)

pub returns : goal.returns
returns c = search (rules, along-over)
