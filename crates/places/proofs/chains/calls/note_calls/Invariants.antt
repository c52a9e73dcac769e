-- `places::chains::calls::note_calls`: the nodes before v are noted.
use Rattle.std.proofs.Common.{◌≡◌, ◌≤◌}
use Rattle.places.specs.inner.Masks.{call_masks}
use Rattle.places.proofs.chains.calls.note_calls.Given as goal

abbrev pub invariant-loop-v : goal.invariant-loop-v
invariant-loop-v l = (l.v ≤ l.n) × (l.masks ≡ call_masks l.records l.v)
