use Rattle.bench.proofs.no_slip_meets_what_is_promised.Goals as goal
use Rattle.bench.proofs.RowSlips.{former-tick}

pub returns-clause-former_tick : goal.returns-clause-former_tick
returns-clause-former_tick c = former-tick
