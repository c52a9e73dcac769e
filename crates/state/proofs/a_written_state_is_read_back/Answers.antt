-- The laws of a stored state, cited.
use Rattle.state.proofs.a_written_state_is_read_back.Goals as goal
use Rattle.state.specs.State.{fresh_state}
use Rattle.state.proofs.Stored.{state-back}

pub returns-clause-state : goal.returns-clause-state
returns-clause-state c = state-back

pub returns-clause-fresh : goal.returns-clause-fresh
returns-clause-fresh c = λ n. state-back (fresh_state n).state
