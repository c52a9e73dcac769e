-- `places::chains::longest_by`: each round has the ends of the chains with one call more.
use Rattle.places.proofs.chains.CallMasks.{MaskRound}
use Rattle.places.proofs.chains.longest_by.Given as goal

abbrev pub invariant-loop-schemes : goal.invariant-loop-schemes
invariant-loop-schemes l = MaskRound l.masks l.ends l.schemes
