-- Calls of four spindles in a row, as a caller from C makes them: fairleadow_spin and fairleadow_live_spin on the list of states and the
-- record that the call before left, fairleadow_rebind and fairleadow_live_rebind on the state of one spindle. Each call is known by its
-- contract alone, which is the record that the function's `ensures` cites.
use Rattle.std.specs.Prelude.{ℕ, ◌≤◌, ◌<◌, List, [], ◌∷◌, map, length, set, take}
use Rattle.std.specs.List.{AllByRecursion}
use Rattle.bindings.specs.Binding.{own_binding}
use Rattle.text.specs.frames.Frame.{contents}
use Rattle.translator.specs.Entry.{translate}
use Rattle.state.specs.declared.layout.TheConstants.{PLACES}
use Rattle.state.specs.declared.State.{State as Kept}
use Rattle.state.specs.State.{fresh_state}
use Rattle.state.specs.Kept.{view}
use Rattle.spindles.specs.Spindles.{depths}
use Rattle.fairleadow.specs.AnswersForC.{GivesBufferC}
use Rattle.fairleadow.specs.RunsForC.{GivesStateC}
use Rattle.fairleadow.specs.RebindingForC.{rebind_for, live_rebind_for, GivesRebindingC}
use Rattle.fairleadow.specs.SpindlesForC.{spin_for, live_spin_for, GivesSpinC}
use Rattle.agreement.specs.ForC.{TableOfC}
use Rattle.spindle_walks.specs.Walks.{HandsImage, FollowsWalk}
use Rattle.spindle_calls.specs.ObservedCalls.{ObservedTick, ObservedCall, observed_spin, observed_rebinding}
use Rattle.spindle_calls.specs.ObservedCalls.{call_of, ObservedBalance, finished_ticks_in}
use Rattle.spindle_calls.specs.Delivered.{kept_at}

abbrev pub observed_tick_c : List Kept → ℕ → ℕ → ℕ → ℕ → ObservedTick
observed_tick_c states k returned m code = record { depth = (kept_at states k).depth; number = returned; mask = m; code = code }

-- one call on these states and this record, and what both are after it; a live one is handed a table that fairleadow_prepare made of the
-- image; a rebinding is handed the state of one spindle where it stands, and the record stays
pub data SpindleCallC (states : List Kept) (taken : ℕ) : ObservedCall → List Kept → ℕ → Type 0 where
  spin_call : {image : List ℕ} {after : List Kept} {k w m₀ k₀ returned at made recorded m code : ℕ}
      → GivesSpinC (spin_for image states taken k w) states k m₀ k₀ returned at made after recorded m code
      → SpindleCallC states taken (observed_spin image k w (observed_tick_c states k returned m code)) after recorded
  spin_call_live : {image table : List ℕ} {after : List Kept} {k w m₀ k₀ returned at made recorded m code : ℕ} → TableOfC image table
      → GivesSpinC (live_spin_for table states taken k w) states k m₀ k₀ returned at made after recorded m code
      → SpindleCallC states taken (observed_spin image k w (observed_tick_c states k returned m code)) after recorded
  rebind_call : {image : List ℕ} {after : Kept} {k n g returned at made : ℕ}
      → GivesRebindingC (rebind_for image (kept_at states k) n g) (kept_at states k) returned at made after
      → SpindleCallC states taken (observed_rebinding image k n g) (set states k after) taken
  rebind_call_live : {image table : List ℕ} {after : Kept} {k n g returned at made : ℕ} → TableOfC image table
      → GivesRebindingC (live_rebind_for table (kept_at states k) n g) (kept_at states k) returned at made after
      → SpindleCallC states taken (observed_rebinding image k n g) (set states k after) taken

-- calls in a row, and the states and the record after the last of them
pub data SpindleCallsInTurnC : List Kept → ℕ → List ObservedCall → List Kept → ℕ → Type 0 where
  none : {states : List Kept} {taken : ℕ} → SpindleCallsInTurnC states taken [] states taken
  more : {states after last : List Kept} {taken recorded final : ℕ} {x : ObservedCall} {rest : List ObservedCall}
      → SpindleCallC states taken x after recorded
      → SpindleCallsInTurnC after recorded rest last final → SpindleCallsInTurnC states taken (x ∷ rest) last final

-- four states that fairleadow_fresh made
pub data FourC (a b c d : ℕ) : List Kept → Type 0 where
  four_fresh : {at₀ at₁ at₂ at₃ made₀ made₁ made₂ made₃ : ℕ} {x y z u : Kept} → GivesStateC (fresh_state a) 0 at₀ made₀ x
      → GivesStateC (fresh_state b) 0 at₁ made₁ y → GivesStateC (fresh_state c) 0 at₂ made₂ z → GivesStateC (fresh_state d) 0 at₃ made₃ u
      → FourC a b c d (x ∷ y ∷ z ∷ u ∷ [])

-- from four fresh states and a record of 4, whatever images and spindles the calls name; the depths are read from the states
unfoldable pub PlacesCountedC : Type 0
PlacesCountedC =
    (a b c d : ℕ) (states : List Kept) → FourC a b c d states → (said : List ObservedCall) (last : List Kept) (final : ℕ)
    → SpindleCallsInTurnC states 4 said last final
    → ObservedBalance said (depths (map view last)) final

-- where fairleadow_translate returned 0 with n characters, and all calls of spindle k are handed these, or a table of them; its state is
-- at first one that fairleadow_fresh made; the others may have any images and states
unfoldable pub OwnWalkC : Type 0
OwnWalkC =
    (text before after : List ℕ) (at n : ℕ) → GivesBufferC (translate text before) 0 at n after
    → (size : ℕ) → 1 ≤ size → size ≤ PLACES → (k : ℕ) (states : List Kept) → k < length states
    → (returned at made : ℕ) → GivesStateC (fresh_state size) returned at made (kept_at states k)
    → (taken : ℕ) (said : List ObservedCall) (last : List Kept) (final : ℕ) → SpindleCallsInTurnC states taken said last final
    → AllByRecursion (HandsImage k (take n after)) (map call_of said)
    → FollowsWalk size (contents text) (finished_ticks_in (contents text) k own_binding said)
