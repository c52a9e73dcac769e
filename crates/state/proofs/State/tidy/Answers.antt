-- `state::State::tidy` meets its contract: the results passed are as they are stored.
use Rattle.std.proofs.Common.{rules}
use Rattle.state.proofs.Tidied.{tidied-turn, tidied-all}
use Rattle.state.proofs.State.tidy.Goals as goal

pub loop-k-preserved : goal.loop-k-preserved
loop-k-preserved c = tidied-turn _ _ _ c.loop-k.invariant (search rules)

pub returns : goal.returns
returns c = tidied-all _ _ c.loop-k.k c.loop-k.invariant (search rules)
