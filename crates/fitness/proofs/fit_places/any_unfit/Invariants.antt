-- `fitness::fit_places::any_unfit` meets its contract: the loop keeps what is known of the places below.
use Rattle.std.proofs.Common.{◌-◌}
use Rattle.image.specs.Decode.{scheme_count}
use Rattle.state.specs.Kept.{view}
use Rattle.fitness.specs.inner.FitnessContracts.{called_by}
use Rattle.fitness.proofs.fit_places.UpwardCases.{PassedPlaces}
use Rattle.fitness.proofs.fit_places.any_unfit.Given as goal

abbrev pub invariant-loop-k : goal.invariant-loop-k
invariant-loop-k l = PassedPlaces l.table.bytes.now (view l.state) (called_by (scheme_count l.table.bytes.now) l.called) l.k

abbrev pub decreases-loop-k : goal.decreases-loop-k
decreases-loop-k l = l.depth - l.k
