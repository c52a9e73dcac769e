-- What a spindle's finished ticks emit is what a walk of its own emits over the words of just these ticks, whatever the other spindles
-- are handed meanwhile.
use Rattle.std.specs.Prelude.{ℕ, ◌≤◌, ◌<◌, Bool, true, false, ◌&&◌, ◌≡◌, List, [], ◌∷◌, map, length, take, if◌then◌else◌, ◌==◌}
use Rattle.std.specs.List.{AllByRecursion}
use Rattle.bindings.specs.Binding.{Binding, own_binding}
use Rattle.text.specs.frames.Frame.{contents}
use Rattle.text.specs.frames.Answer.{Reply, success, refusal}
use Rattle.charts.specs.Chart.{Chart}
use Rattle.walk.specs.Walk.{Signal, Tick, walk}
use Rattle.translator.specs.Entry.{translate}
use Rattle.state.specs.declared.layout.TheConstants.{PLACES}
use Rattle.state.specs.State.{fresh_state}
use Rattle.agreement.specs.Agreement.{binding_after}
use Rattle.spindles.specs.Spindles.{state_at}
use Rattle.spindles.specs.spindle_places.Calls.{Head, SpindleCall, spins, rebinds, spin_on, head_after}

-- a finished tick, its word and the binding that is told before it
pub record FinishedTick : Type 0 where
  pub signal : Signal
  pub mask : ℕ
  pub code : ℕ

abbrev pub is_success : Reply → Bool
is_success (success n) = true
is_success (refusal k i n) = false

-- those of spindle k among a list of calls; its rebindings, less those that 22 refuses, make the binding of s
unfoldable pub finished_ticks_by : Chart → ℕ → Binding → Head → List SpindleCall → List FinishedTick
finished_ticks_by c k s h [] = []
finished_ticks_by c k s h (spins t j w ∷ rest) =
    let r = spin_on h t j w in
    let more = finished_ticks_by c k s (head_after h (spins t j w)) rest in
    if j == k && is_success r.reply
    then record { signal = record { word = w; binding = s }; mask = r.mask; code = r.code } ∷ more else more
finished_ticks_by c k s h (rebinds t j n g ∷ rest) =
    finished_ticks_by c k (if j == k then binding_after c n g s else s) (head_after h (rebinds t j n g)) rest

-- each call of spindle k is handed the image
abbrev pub HandsImage : ℕ → List ℕ → SpindleCall → Type 0
HandsImage k image (spins t j w) = j ≡ k → t ≡ image
HandsImage k image (rebinds t j n g) = j ≡ k → t ≡ image

pub record FollowsWalk (n : ℕ) (c : Chart) (made : List FinishedTick) : Type 0 where
  pub masks : map (λ (m : FinishedTick). m.mask) made ≡ map (λ (t : Tick). t.mask) (walk n c (map (λ (m : FinishedTick). m.signal) made))
  pub codes : map (λ (m : FinishedTick). m.code) made ≡ map (λ (t : Tick). t.code) (walk n c (map (λ (m : FinishedTick). m.signal) made))

-- where a text translates, with n characters written, and every call of spindle k is handed these, its state being a fresh one at first;
-- the others may have any images and states
unfoldable pub OwnWalk : Type 0
OwnWalk =
    (text out : List ℕ) (n : ℕ) → (translate text out).reply ≡ success n
    → (size : ℕ) → 1 ≤ size → size ≤ PLACES → (k : ℕ) (h : Head) → k < length h.states → state_at h.states k ≡ (fresh_state size).state
    → (calls : List SpindleCall) → AllByRecursion (HandsImage k (take n (translate text out).buffer)) calls
    → FollowsWalk size (contents text) (finished_ticks_by (contents text) k own_binding h calls)
