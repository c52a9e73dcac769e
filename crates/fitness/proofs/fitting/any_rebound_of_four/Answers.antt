-- `fitness::fitting::any_rebound_of_four` meets its contract.
use Rattle.std.proofs.Common.{sym}
use Rattle.words.proofs.lists.Searches.{any-snoc}
use Rattle.state.specs.Kept.{view}
use Rattle.fitness.specs.inner.FitnessContracts.{is_rebound}
use Rattle.fitness.proofs.fitting.any_rebound_of_four.Goals as goal

pub returns : goal.returns
returns c = rw (c.any_rebound_of_three.ensures, c.is_rebound.ensures) (sym (any-snoc (is_rebound (view c.args.state.now)) c.args.h 3))
