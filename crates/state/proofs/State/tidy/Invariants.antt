-- `state::State::tidy` meets its contract: the results passed are as they are stored.
use Rattle.std.proofs.Common.{◌≡◌}
use Rattle.state.proofs.Tidied.{tidied}
use Rattle.state.proofs.State.tidy.Given as goal

abbrev pub invariant-loop-k : goal.invariant-loop-k
invariant-loop-k l = l.self ≡ tidied l.fn.self l.k
