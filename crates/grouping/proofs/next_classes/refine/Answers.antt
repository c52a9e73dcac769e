-- `grouping::next_classes::refine` meets its contract: the next classes of the labels before l stand in the buffer.
use Rattle.std.proofs.Common.{rules}
use Rattle.grouping.proofs.RoundSteps.{refining-start, refining-low, refining-lowest, refining-on, refining-all}
use Rattle.grouping.proofs.next_classes.refine.Goals as goal

pub loop-l-init : goal.loop-l-init
loop-l-init c = search (rules, refining-start)

pub next_class-requires-clause-low : goal.next_class-requires-clause-low
next_class-requires-clause-low c = refining-low _ c.requires.even _ _ _ _ _ c.loop-l.invariant (search rules)

pub next_class-requires-clause-lowest : goal.next_class-requires-clause-lowest
next_class-requires-clause-lowest c = refining-lowest _ c.requires.even _ _ _ _ _ c.loop-l.invariant (search rules)

pub loop-l-preserved : goal.loop-l-preserved
loop-l-preserved c = search (rules, refining-on)

pub returns : goal.returns
returns c = refining-all _ c.requires.even _ _ _ _ _ c.loop-l.invariant (search rules)
