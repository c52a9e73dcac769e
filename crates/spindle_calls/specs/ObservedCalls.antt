-- Calls of four spindles with what their caller has of them: the places that they take and give back, and the ticks of each spindle.
use Rattle.std.specs.Prelude.{ℕ, ◌+◌, ◌≤◌, ◌&&◌, ◌≡◌, List, [], ◌∷◌, if◌then◌else◌, ◌==◌}
use Rattle.bindings.specs.Binding.{Binding}
use Rattle.charts.specs.Chart.{Chart}
use Rattle.spindles.specs.declared.layout.TheConstants.{STORE}
use Rattle.agreement.specs.Agreement.{binding_after}
use Rattle.spindles.specs.spindle_places.Calls.{SpindleCall, spins, rebinds}
use Rattle.spindles.specs.spindle_places.PlacesBalance.{places_called, places_returned, places_given_back}
use Rattle.spindle_walks.specs.Walks.{FinishedTick}

-- what a caller has of a tick: the depth of the spindle before it, the number of the answer, 0 for success, and mask and code after it
pub record ObservedTick : Type 0 where
  pub depth : ℕ
  pub number : ℕ
  pub mask : ℕ
  pub code : ℕ

-- a call with what it was given: the image, the spindle, the word; or the image, the spindle, the number and its scheme
pub data ObservedCall : Type 0 where
  observed_spin : List ℕ → ℕ → ℕ → ObservedTick → ObservedCall
  observed_rebinding : List ℕ → ℕ → ℕ → ℕ → ObservedCall

abbrev pub call_of : ObservedCall → SpindleCall
call_of (observed_spin t k w y) = spins t k w
call_of (observed_rebinding t k n g) = rebinds t k n g

-- ---- places: those that ticks take or give back, by the codes of the finished ones
abbrev pub counts_in : (ℕ → ℕ → ℕ) → ObservedCall → ℕ
counts_in f (observed_spin t k w y) = if y.number == 0 then f y.code y.depth else 0
counts_in f (observed_rebinding t k n g) = 0

unfoldable pub tally_in : (ℕ → ℕ → ℕ) → List ObservedCall → ℕ
tally_in f [] = 0
tally_in f (x ∷ rest) = counts_in f x + tally_in f rest

-- by the sum of the depths and the record after the last call
pub record ObservedBalance (said : List ObservedCall) (sum final : ℕ) : Type 0 where
  pub sum_is : sum + tally_in places_returned said + tally_in places_given_back said ≡ 4 + tally_in places_called said
  pub recorded : final ≡ sum
  pub room : sum ≤ STORE

-- ---- walks: the finished ticks of spindle k; its rebindings, less those that 22 refuses, make the binding of s
unfoldable pub finished_ticks_in : Chart → ℕ → Binding → List ObservedCall → List FinishedTick
finished_ticks_in c k s [] = []
finished_ticks_in c k s (observed_spin t j w y ∷ rest) =
    let more = finished_ticks_in c k s rest in
    if j == k && y.number == 0 then record { signal = record { word = w; binding = s }; mask = y.mask; code = y.code } ∷ more else more
finished_ticks_in c k s (observed_rebinding t j n g ∷ rest) = finished_ticks_in c k (if j == k then binding_after c n g s else s) rest
