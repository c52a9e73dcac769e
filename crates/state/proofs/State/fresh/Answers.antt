-- `state::State::fresh` meets its contract: by whether the size is refused.
use Rattle.std.proofs.Common.{sym, ◌∙◌}
use Rattle.state.specs.State.{fresh_state}
use Rattle.state.proofs.State.fresh.Goals as goal

pub returns-then-bad_size : goal.returns-then-bad_size
unfolding fresh_state
returns-then-bad_size c =
    let e = sym c.bad_size.ensures ∙ c.if-bad_size.true in
    record { answered = simp e; state = simp e }

pub returns : goal.returns
unfolding fresh_state
returns c =
    let e = sym c.bad_size.ensures ∙ c.if-bad_size.false in
    record { answered = simp e; state = simp (e, c.own_binding-serving.ensures) }
