-- `fitness::filled::any_filled_of_eight` meets its contract.
use Rattle.state.specs.Kept.{view}
use Rattle.fitness.proofs.filled.FilledCases.{filled-eight}
use Rattle.fitness.proofs.filled.any_filled_of_eight.Goals as goal

pub returns : goal.returns
returns c = filled-eight (view c.args.state.now) c.args.k _ _ _ c.eight.ensures c.eight-2.ensures c.eight-3.ensures
