-- On the table that was prepared from an image, a live rebinding is the image's own, from every state.
use Rattle.std.proofs.Common.{arith}
use Rattle.std.proofs.lemmas.Grind.{common_steps}
use Rattle.rebinding.specs.Rebind.{rebind, live_rebind}
use Rattle.rebinding.specs.Laws.{LiveRebindIs}

pub live-rebind-is : LiveRebindIs
unfolding live_rebind rebind
live-rebind-is t b header holds accepted s h k = grind (arith, common_steps)
