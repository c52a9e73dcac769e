-- Calls of four spindles in a row over the functions: spin and live_spin on the list of states and the record that the call before left,
-- rebind and live_rebind on one of the states, put back in its place. Each call is known by its contract alone, which is the record that
-- the function's `ensures` cites.
use Rattle.std.specs.Prelude.{ℕ, ◌≤◌, ◌<◌, ◌≡◌, List, [], ◌∷◌, map, length, set, take, slice_index_or}
use Rattle.std.specs.List.{AllByRecursion}
use Rattle.bindings.specs.Binding.{own_binding}
use Rattle.text.specs.frames.Frame.{contents}
use Rattle.text.specs.frames.Answer.{Answer, reply, reply_number, success, GivesBuffer}
use Rattle.translator.specs.Entry.{translate}
use Rattle.state.specs.declared.layout.TheConstants.{PLACES}
use Rattle.state.specs.declared.State.{State as Kept}
use Rattle.state.specs.declared.StateReport.{StateReport}
use Rattle.state.specs.State.{no_state, fresh_state}
use Rattle.state.specs.Kept.{view, stored, GivesState}
use Rattle.rebinding.specs.Rebind.{rebind, live_rebind, GivesRebindingOn}
use Rattle.agreement.specs.Calls.{TableOf}
use Rattle.runs.specs.TickOutcome.{tick_reply, answered_mask, answered_code}
use Rattle.spindles.specs.declared.SpinReport.{SpinReport}
use Rattle.spindles.specs.Spindles.{depths, spin, live_spin, GivesSpin}
use Rattle.spindle_walks.specs.Walks.{HandsImage, FollowsWalk}
use Rattle.spindle_calls.specs.ObservedCalls.{ObservedTick, ObservedCall, observed_spin, observed_rebinding}
use Rattle.spindle_calls.specs.ObservedCalls.{call_of, ObservedBalance, finished_ticks_in}

-- the state of spindle k as the list has it
abbrev pub kept_at : List Kept → ℕ → Kept
kept_at states k = slice_index_or states k (stored no_state)

abbrev pub observed_tick : List Kept → ℕ → SpinReport → ObservedTick
observed_tick states k r = record {
  depth = (kept_at states k).depth;
  number =
      reply_number (tick_reply r.answer);
  mask = answered_mask r.answer;
  code = answered_code r.answer;
}

-- one call on these states and this record, and what both are after it; a live one is handed a table that prepare made of the image
pub data SpindleCallOn (states : List Kept) (taken : ℕ) : ObservedCall → List Kept → ℕ → Type 0 where
  spin_call : {image : List ℕ} {k w : ℕ} {r : SpinReport} {after : List Kept}
      → GivesSpin (spin image (map view states) taken k w) states k r after
      → SpindleCallOn states taken (observed_spin image k w (observed_tick states k r)) after r.taken
  spin_call_live : {image table : List ℕ} {k w : ℕ} {r : SpinReport} {after : List Kept} → TableOf image table
      → GivesSpin (live_spin table (map view states) taken k w) states k r after
      → SpindleCallOn states taken (observed_spin image k w (observed_tick states k r)) after r.taken
  rebind_call : {image : List ℕ} {k n g : ℕ} {r : Answer} {after : Kept}
      → GivesRebindingOn (rebind image (view (kept_at states k)) n g) (kept_at states k) r after
      → SpindleCallOn states taken (observed_rebinding image k n g) (set states k after) taken
  rebind_call_live : {image table : List ℕ} {k n g : ℕ} {r : Answer} {after : Kept} → TableOf image table
      → GivesRebindingOn (live_rebind table (view (kept_at states k)) n g) (kept_at states k) r after
      → SpindleCallOn states taken (observed_rebinding image k n g) (set states k after) taken

-- calls in a row, and the states and the record after the last of them
pub data SpindleCallsInTurn : List Kept → ℕ → List ObservedCall → List Kept → ℕ → Type 0 where
  none : {states : List Kept} {taken : ℕ} → SpindleCallsInTurn states taken [] states taken
  more : {states after last : List Kept} {taken recorded final : ℕ} {x : ObservedCall} {rest : List ObservedCall}
      → SpindleCallOn states taken x after recorded
      → SpindleCallsInTurn after recorded rest last final → SpindleCallsInTurn states taken (x ∷ rest) last final

-- a state that State::fresh made
pub record FreshOne (n : ℕ) (s : Kept) : Type 0 where
  pub made : StateReport
  pub makes : GivesState (fresh_state n) made
  pub succeeded : reply made.answer ≡ success 0
  pub state : s ≡ made.state

-- from four fresh states and a record of 4, whatever images and spindles the calls name
unfoldable pub PlacesDelivered : Type 0
PlacesDelivered =
    (a b c d : ℕ) (s₀ s₁ s₂ s₃ : Kept) → FreshOne a s₀ → FreshOne b s₁ → FreshOne c s₂ → FreshOne d s₃
    → (said : List ObservedCall) (last : List Kept) (final : ℕ) → SpindleCallsInTurn (s₀ ∷ s₁ ∷ s₂ ∷ s₃ ∷ []) 4 said last final
    → ObservedBalance said (depths (map view last)) final

-- where translate succeeded with n characters, and all calls of spindle k are handed these, or a table of them; its state is a fresh one
-- at first; the others may have any images and states
unfoldable pub OwnWalkDelivered : Type 0
OwnWalkDelivered =
    (text before after : List ℕ) (answer : Answer) → GivesBuffer (translate text before) answer after → (n : ℕ) → reply answer ≡ success n
    → (size : ℕ) → 1 ≤ size → size ≤ PLACES → (k : ℕ) (states : List Kept) → k < length states
    → (made : StateReport) → GivesState (fresh_state size) made → kept_at states k ≡ made.state
    → (taken : ℕ) (said : List ObservedCall) (last : List Kept) (final : ℕ) → SpindleCallsInTurn states taken said last final
    → AllByRecursion (HandsImage k (take n after)) (map call_of said)
    → FollowsWalk size (contents text) (finished_ticks_in (contents text) k own_binding said)
