use Rattle.ticks.proofs.ticks_keep_a_state_fitting.Goals as goal
use Rattle.ticks.proofs.Keeps.{fresh-fitting, tick-fitting}

pub returns-clause-fresh : goal.returns-clause-fresh
returns-clause-fresh c = fresh-fitting

pub returns-clause-tick : goal.returns-clause-tick
returns-clause-tick c = tick-fitting
