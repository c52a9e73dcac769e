-- The struct of 130 bytes by which C keeps a state, and the state that it stands for.
use Rattle.std.specs.Prelude.{ℕ, ◌≡◌, Bool, not, map, if◌then◌else◌, ◌==◌}
use Rattle.text.specs.frames.Answer.{reply}
use Rattle.state.specs.declared.State.{State as Kept}
use Rattle.state.specs.declared.StateReport.{StateReport}
use Rattle.state.specs.State.{State, StateOutcome}

-- a result byte of 0 is false, any other is true
abbrev pub is_set : ℕ → Bool
is_set b = not (b == 0)

-- and as it is stored it is 0 or 1
abbrev pub result_byte : Bool → ℕ
result_byte b = if b then 1 else 0

-- the state that the struct stands for
abbrev pub view : Kept → State
view s = record {
  size = s.size;
  depth = s.depth;
  places = s.places;
  bits = map is_set s.results;
  serving = s.serving;
  numbers = s.numbers;
  servers = s.servers;
}

-- the struct as a state is stored in it
abbrev pub stored : State → Kept
stored s = record {
  size = s.size;
  depth = s.depth;
  places = s.places;
  results = map result_byte s.bits;
  serving = s.serving;
  numbers = s.numbers;
  servers = s.servers;
}

-- what a function that makes a state promises
pub record GivesState (x : StateOutcome) (r : StateReport) : Type 0 where
  pub answered : reply r.answer ≡ x.reply
  pub state : r.state ≡ stored x.state
