-- The places taken after every list of calls: four, and those of the finished calls, less those that returns and drops gave back.
use Rattle.std.specs.Prelude.{ℕ, ◌+◌, ◌-◌, ◌≤◌, ◌&&◌, not, ◌≡◌, List, [], ◌∷◌, if◌then◌else◌, nat_lt, nat_le, ◌==◌}
use Rattle.text.specs.declared.frames.codes.TheConstants.{RETURN_CODE, OPERATION_CALL_CODE, DROP_CODE}
use Rattle.spindles.specs.declared.layout.TheConstants.{STORE}
use Rattle.spindles.specs.Spindles.{state_at, depths}
use Rattle.spindles.specs.spindle_places.Calls.{Head, new_head, SpindleCall, spins, rebinds, spin_on, head_after, head_after_all}

-- the places that a tick takes or gives back, by its code and the depth before it: a finished call (code 60 hexadecimal is none), a
-- return above depth 1, a drop; a refused call stands for code 0
abbrev pub places_called : ℕ → ℕ → ℕ
places_called code d = if nat_le OPERATION_CALL_CODE code && not (code == DROP_CODE) then 1 else 0

abbrev pub places_returned : ℕ → ℕ → ℕ
places_returned code d = if code == RETURN_CODE && nat_lt 1 d then 1 else 0

abbrev pub places_given_back : ℕ → ℕ → ℕ
places_given_back code d = if code == DROP_CODE then d - 1 else 0

-- their sum over a list of calls; a rebinding takes none and gives none back
abbrev pub counts : (ℕ → ℕ → ℕ) → Head → SpindleCall → ℕ
counts f h (spins t k w) = f (spin_on h t k w).code (state_at h.states k).depth
counts f h (rebinds t k n g) = 0

unfoldable pub tally : (ℕ → ℕ → ℕ) → Head → List SpindleCall → ℕ
tally f h [] = 0
tally f h (a ∷ rest) = counts f h a + tally f (head_after h a) rest

pub record PlacesBalance (h : Head) (calls : List SpindleCall) : Type 0 where
  pub sum : depths (head_after_all h calls).states + tally places_returned h calls + tally places_given_back h calls
      ≡ h.taken + tally places_called h calls
  pub recorded : (head_after_all h calls).taken ≡ depths (head_after_all h calls).states
  pub room : depths (head_after_all h calls).states ≤ STORE

-- from four fresh states, whatever images and spindles the calls name
unfoldable pub PlacesCounted : Type 0
PlacesCounted = (a b c d : ℕ) (calls : List SpindleCall) → PlacesBalance (new_head a b c d) calls
