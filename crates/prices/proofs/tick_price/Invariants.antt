-- `prices::tick_price` meets its contract: the price of the bits taken off, and the bits left.
use Rattle.prices.proofs.Bits.{CountedBits}
use Rattle.prices.proofs.tick_price.Given as goal

abbrev pub invariant-loop-rest : goal.invariant-loop-rest
invariant-loop-rest l = CountedBits l.prices l.mask l.total l.rest

abbrev pub decreases-loop-rest : goal.decreases-loop-rest
decreases-loop-rest l = l.rest
