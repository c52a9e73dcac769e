-- `fitness::filled::is_filled_place` meets its contract.
use Rattle.state.specs.Kept.{view}
use Rattle.fitness.proofs.filled.FilledCases.{filled-one}
use Rattle.fitness.proofs.filled.is_filled_place.Goals as goal

pub returns : goal.returns
returns c = filled-one (view c.args.state.now) c.args.k
