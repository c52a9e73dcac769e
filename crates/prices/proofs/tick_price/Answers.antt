use Rattle.std.proofs.Common.{arith, rules}
use Rattle.prices.proofs.Bits.{bit-fits, counted-more, counted-all}
use Rattle.prices.proofs.tick_price.Goals as goal

pub overflow_add-total : goal.overflow_add-total
overflow_add-total c =
    let loop = c.loop-rest in
    omega (arith, bit-fits loop.invariant c.loop-rest-test.true (λ k. search rules))

pub loop-rest-preserved : goal.loop-rest-preserved
loop-rest-preserved c = counted-more c.loop-rest.invariant c.loop-rest-test.true

pub returns : goal.returns
returns c = counted-all c.loop-rest.invariant c.loop-rest-test.false
