-- A state that was stored is viewed as itself, a fresh one too, refused or not.
use Rattle.std.specs.Prelude.{ℕ, ◌≡◌}
use Rattle.state.specs.State.{State, fresh_state}
use Rattle.state.specs.Kept.{view, stored}

abbrev pub StateBack : Type 0
StateBack = (s : State) → view (stored s) ≡ s

abbrev pub FreshBack : Type 0
FreshBack = (n : ℕ) → view (stored (fresh_state n).state) ≡ (fresh_state n).state
