-- `fitness::fitting::any_rebound_of_three` meets its contract.
use Rattle.state.specs.Kept.{view}
use Rattle.fitness.proofs.fitting.ServedCases.{rebound-of-three}
use Rattle.fitness.proofs.fitting.any_rebound_of_three.Goals as goal

pub returns : goal.returns
returns c = rw (c.is_rebound.ensures, c.is_rebound-2.ensures, c.is_rebound-3.ensures) (rebound-of-three (view c.args.state.now) c.args.h)
