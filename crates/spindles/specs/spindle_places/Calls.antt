-- Lists of calls of four spindles, each given what the last one left; a spindle's numbers may be rebound between them.
use Rattle.std.specs.Prelude.{ℕ, List, [], ◌∷◌, set}
use Rattle.state.specs.State.{State, fresh}
use Rattle.rebinding.specs.Rebind.{rebind}
use Rattle.spindles.specs.Spindles.{state_at, SpinOutcome, spin}

-- what is handed from call to call: the list of states, and the places recorded as taken
pub record Head : Type 0 where
  pub states : List State
  pub taken : ℕ

-- four fresh states, with 4 places taken
abbrev pub new_head : ℕ → ℕ → ℕ → ℕ → Head
new_head a b c d = record { states = fresh a ∷ fresh b ∷ fresh c ∷ fresh d ∷ []; taken = 4 }

-- a tick by an image, of a spindle, by a word; or a rebinding by an image, in the state of a spindle, of a number to a scheme
pub data SpindleCall : Type 0 where
  spins : List ℕ → ℕ → ℕ → SpindleCall
  rebinds : List ℕ → ℕ → ℕ → ℕ → SpindleCall

abbrev pub spin_on : Head → List ℕ → ℕ → ℕ → SpinOutcome
spin_on h t k w = spin t h.states h.taken k w

-- what one call leaves, and what a list of them does
abbrev pub head_after : Head → SpindleCall → Head
head_after h (spins t k w) = let r = spin_on h t k w in record { states = r.states; taken = r.taken }
head_after h (rebinds t k n g) = record { states = set h.states k (rebind t (state_at h.states k) n g).state; taken = h.taken }

unfoldable pub head_after_all : Head → List SpindleCall → Head
head_after_all h [] = h
head_after_all h (a ∷ rest) = head_after_all (head_after h a) rest
