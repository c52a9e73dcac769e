use Rattle.std.proofs.Common.{arith, refl, sym, rules}
use Rattle.cause.proofs.ConditionCases.{passed-turn}
use Rattle.words.specs.lists.Numbers.{lowest}
use Rattle.std.proofs.lemmas.Bool.{cond-true, cond-false}
use Rattle.cause.proofs.conditions.lowest_differing.Goals as goal

pub loop-i-init : goal.loop-i-init
unfolding lowest
loop-i-init c = record { inside = omega arith; lowest = refl }

pub loop-i-preserved-then-differs : goal.loop-i-preserved-then-differs
loop-i-preserved-then-differs c =
    let loop = c.loop-i in
    passed-turn _ _ _ loop.low loop.i loop.invariant (search rules) _ c.differs.ensures _
    (sym (cond-true _ _ _ c.if-differs.true))

pub loop-i-preserved : goal.loop-i-preserved
loop-i-preserved c =
    let loop = c.loop-i in
    passed-turn _ _ _ loop.low loop.i loop.invariant (search rules) _ c.differs.ensures _
    (sym (cond-false _ _ _ c.if-differs.false))
