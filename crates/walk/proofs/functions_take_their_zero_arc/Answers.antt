use Rattle.walk.proofs.functions_take_their_zero_arc.Goals as goal
use Rattle.walk.proofs.Functions.{zero-arc}

pub returns : goal.returns
returns c = record { zero_arc = zero-arc }
