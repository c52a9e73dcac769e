use Rattle.std.proofs.Common.{arith, rules}
use Rattle.prices.proofs.Sums.{summed-none, summed-more, summed-fits, summed-all}
use Rattle.prices.proofs.hundredths_of.Goals as goal

pub loop-i-init : goal.loop-i-init
loop-i-init c = summed-none

pub overflow_add-total : goal.overflow_add-total
overflow_add-total c =
    omega (arith, summed-fits (summed-more c.loop-i.invariant (search rules) c.tick_price-total.ensures) (λ k. search rules) c.requires)

pub loop-i-preserved : goal.loop-i-preserved
loop-i-preserved c = summed-more c.loop-i.invariant (search rules) c.tick_price-total.ensures

pub returns-clause-summed : goal.returns-clause-summed
returns-clause-summed c = summed-all c.loop-i.invariant (search rules)

pub returns-clause-small : goal.returns-clause-small
returns-clause-small c = summed-fits c.loop-i.invariant (λ k. search rules) c.requires
