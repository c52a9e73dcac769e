-- `prices::hundredths_of` meets its contract: the prices of the ticks before i.
use Rattle.prices.proofs.Sums.{SummedTicks}
use Rattle.prices.proofs.hundredths_of.Given as goal

abbrev pub invariant-loop-i : goal.invariant-loop-i
invariant-loop-i l = SummedTicks l.prices l.masks l.total l.i
