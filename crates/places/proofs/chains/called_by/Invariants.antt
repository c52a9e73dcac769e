-- `places::chains::called_by`: the masks of the schemes below g are joined.
use Rattle.std.proofs.Common.{◌≡◌, ◌≤◌}
use Rattle.places.specs.inner.Masks.{called_by}
use Rattle.places.proofs.chains.called_by.Given as goal

abbrev pub invariant-loop-g : goal.invariant-loop-g
invariant-loop-g l = (l.g ≤ 17) × (l.called ≡ called_by l.masks l.set l.g)
