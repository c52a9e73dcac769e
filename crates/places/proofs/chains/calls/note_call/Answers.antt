-- `places::chains::calls::note_call`: the scheme called is one of 17, and a node without a call changes no mask.
use Rattle.std.proofs.Common.{arith}
use Rattle.places.proofs.chains.CallMasks.{called-low, none-noted}
use Rattle.places.proofs.chains.calls.note_call.Goals as goal

pub overflow_shl-masks : goal.overflow_shl-masks
overflow_shl-masks c = omega (arith, called-low c.requires c.called_at-called.ensures c.if-called-ne0.true)

pub returns-else-called-ne0 : goal.returns-else-called-ne0
returns-else-called-ne0 c = none-noted c.requires c.called_at-called.ensures c.if-called-ne0.false
