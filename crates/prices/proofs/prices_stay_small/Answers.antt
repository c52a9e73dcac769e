use Rattle.prices.proofs.Sums.{tick-most, hundredths-most}
use Rattle.prices.proofs.prices_stay_small.Goals as goal

pub returns-clause-a_tick : goal.returns-clause-a_tick
returns-clause-a_tick c = tick-most

pub returns-clause-ticks : goal.returns-clause-ticks
returns-clause-ticks c = hundredths-most
