-- A state with some of its parts changed.
use Rattle.std.specs.Prelude.{ℕ, List, set}
use Rattle.results.specs.Results.{Results, with_result}
use Rattle.bindings.specs.Binding.{Binding}
use Rattle.state.specs.State.{State, bottom_alone}

abbrev pub with_depth : State → ℕ → State
with_depth s d = record s { depth = d }

-- labels, numbers and servers of the places
abbrev pub with_places : State → List ℕ → List ℕ → List ℕ → State
with_places s ls hs ks = record s { places = ls; numbers = hs; servers = ks }

abbrev pub with_place : State → ℕ → ℕ → State
with_place s k l = with_places s (set s.places k l) s.numbers s.servers

-- place k holds label l, of a scheme that was called by number h and served by g
abbrev pub with_opened : State → ℕ → ℕ → ℕ → ℕ → State
with_opened s k l h g = with_places s (set s.places k l) (set s.numbers k h) (set s.servers k g)

-- one place in use, held by scheme h by its own number at label l
abbrev pub with_alone : State → ℕ → ℕ → State
with_alone s l h = with_depth (with_places s (bottom_alone l) (bottom_alone h) (bottom_alone h)) 1

abbrev pub with_bits : State → Results → State
with_bits s b = record s { bits = b }

abbrev pub state_after_result : State → ℕ → ℕ → State
state_after_result s r h = with_bits s (with_result r h s.bits)

abbrev pub with_serving : State → Binding → State
with_serving s g = record s { serving = g }
