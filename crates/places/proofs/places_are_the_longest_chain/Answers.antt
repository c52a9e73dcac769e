use Rattle.places.proofs.places_are_the_longest_chain.Goals as goal
use Rattle.places.proofs.Reported.{reported}

pub returns : goal.returns
returns c = record { reported = reported }
