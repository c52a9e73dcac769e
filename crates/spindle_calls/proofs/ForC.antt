-- Calls from C in a row that meet their contracts: the places are counted, and each spindle makes the ticks of its own walk.
use Rattle.std.proofs.Common.{ℕ, ◌≡◌, refl, sym, ◌∙◌, ap, subst, List, [], ◌∷◌, map, arith, take, ne_eqb, ◌==◌}
use Rattle.std.proofs.lemmas.Grind.{common_steps}
use Rattle.std.proofs.lemmas.List.{length-map}
use Rattle.std.specs.List.{AllByRecursion}
use Rattle.bindings.specs.Binding.{own_binding}
use Rattle.text.specs.frames.Frame.{contents}
use Rattle.text.specs.frames.Answer.{reply_number}
use Rattle.state.specs.declared.State.{State as Kept}
use Rattle.state.specs.State.{State, fresh, fresh_state}
use Rattle.state.specs.Kept.{view}
use Rattle.state.proofs.Stored.{state-back}
use Rattle.fairleadow.specs.RunsForC.{GivesStateC}
use Rattle.fairleadow.specs.RebindingForC.{rebind_for, live_rebind_for, GivesRebindingC}
use Rattle.fairleadow.specs.SpindlesForC.{spin_for, live_spin_for, GivesSpinC}
use Rattle.agreement.specs.ForC.{TableOfC}
use Rattle.agreement.proofs.ForC.{returned-0}
use Rattle.agreement.proofs.OneCall.{prepared-rebind-is}
use Rattle.agreement.proofs.OneCallC.{table-prepared}
use Rattle.spindles.specs.Spindles.{state_at, depths, SpinOutcome, if_spun}
use Rattle.spindles.proofs.Live.{live-spin-is}
use Rattle.spindles.specs.spindle_places.Calls.{new_head, head_after}
use Rattle.spindle_walks.specs.Walks.{HandsImage, FollowsWalk, OwnWalk}
use Rattle.spindle_walks.proofs.Walks.{own-walks}
use Rattle.spindle_calls.specs.ObservedCalls.{ObservedCall, call_of}
use Rattle.spindle_calls.specs.Delivered.{kept_at}
use Rattle.spindle_calls.specs.ForC.{observed_tick_c, SpindleCallC, spin_call, spin_call_live, rebind_call, rebind_call_live, none, more}
use Rattle.spindle_calls.specs.ForC.{SpindleCallsInTurnC, FourC, four_fresh, PlacesCountedC, OwnWalkC}
use Rattle.spindle_calls.proofs.KeptHeads.{head_of, view-at, spun-left, rebound-left}
use Rattle.spindle_calls.proofs.Held.{SpinEnds, refuses, finishes, spin-ends}
use Rattle.spindle_calls.proofs.Delivered.{own-walks-delivered, places-delivered}
use Rattle.spindle_calls.proofs.Row.{Hears, hears_no, hears_tick, HeardFrom, CallsRow, row-none, row-more, row-counted}

module _ (states : List Kept) (taken : ℕ) where
  -- ---- live calls, by their tables
  live-as : (image table : List ℕ) → TableOfC image table → (k w m₀ k₀ returned at made : ℕ) (after : List Kept) (recorded m code : ℕ)
      → GivesSpinC (live_spin_for table states taken k w) states k m₀ k₀ returned at made after recorded m code
      → GivesSpinC (spin_for image states taken k w) states k m₀ k₀ returned at made after recorded m code
  live-as image table t k w m₀ k₀ returned at made after recorded m code z = grind (arith, common_steps, live-spin-is, table-prepared)

  live-rebinding-as : (image table : List ℕ) → TableOfC image table → (s : Kept) (n g returned at made : ℕ) (after : Kept)
      → GivesRebindingC (live_rebind_for table s n g) s returned at made after
      → GivesRebindingC (rebind_for image s n g) s returned at made after
  live-rebinding-as image table t s n g returned at made after z = grind (arith, common_steps, table-prepared, prepared-rebind-is)

  -- ---- what is heard of a tick
  hears-by : (k returned m₀ k₀ m code : ℕ) {x : SpinOutcome} → SpinEnds (map view states) taken k x → returned ≡ reply_number x.reply
      → m ≡ if_spun x x.mask m₀ → code ≡ if_spun x x.code k₀
      → Hears (state_at (map view states) k).depth x (observed_tick_c states k returned m code)
  hears-by k returned m₀ k₀ m code (refuses n j l) e f g = hears_no refl refl (ap (λ (a : ℕ). a == 0) e ∙ ne_eqb n 0 (λ q. omega arith))
  hears-by k returned m₀ k₀ m code (finishes m' code' t) e f g = hears_tick refl e f g (ap (λ (s : State). s.depth) (view-at states k))

  tick-heard : (image : List ℕ) (k w m₀ k₀ returned at made : ℕ) (after : List Kept) (recorded m code : ℕ)
      → GivesSpinC (spin_for image states taken k w) states k m₀ k₀ returned at made after recorded m code
      → Hears (state_at (map view states) k).depth (spin_for image states taken k w) (observed_tick_c states k returned m code)
  tick-heard image k w m₀ k₀ returned at made after recorded m code z =
      hears-by k returned m₀ k₀ m code (spin-ends image (map view states) taken k w) z.told.number-is z.mask z.code

  call-heard : {x : ObservedCall} {after : List Kept} {recorded : ℕ} → SpindleCallC states taken x after recorded
      → HeardFrom (head_of states taken) x
  call-heard (spin_call z) = tick-heard _ _ _ _ _ _ _ _ _ _ _ _ z
  call-heard (spin_call_live t z) = tick-heard _ _ _ _ _ _ _ _ _ _ _ _ (live-as _ _ t _ _ _ _ _ _ _ _ _ _ _ z)
  call-heard (rebind_call z) = tt
  call-heard (rebind_call_live t z) = tt

  -- ---- what a call leaves
  call-left : {x : ObservedCall} {after : List Kept} {recorded : ℕ} → SpindleCallC states taken x after recorded
      → head_after (head_of states taken) (call_of x) ≡ head_of after recorded
  call-left (spin_call {image = image} {after = after} {k = k} {w = w} {recorded = recorded} z) =
      spun-left states taken image k w after recorded z.states z.taken
  call-left (spin_call_live {image = image} {after = after} {k = k} {w = w} {recorded = recorded} t z) =
      let y = live-as image _ t k w _ _ _ _ _ after recorded _ _ z in spun-left states taken image k w after recorded y.states y.taken
  call-left (rebind_call {image = image} {after = after} {k = k} {n = n} {g = g} z) =
      rebound-left states taken image k n g after z.state
  call-left (rebind_call_live {image = image} {after = after} {k = k} {n = n} {g = g} t z) =
      rebound-left states taken image k n g after (live-rebinding-as image _ t (kept_at states k) n g _ _ _ after z).state

-- ---- any number of calls
pub calls-row : (states : List Kept) (taken : ℕ) (said : List ObservedCall) (last : List Kept) (final : ℕ)
    → SpindleCallsInTurnC states taken said last final
    → CallsRow (head_of states taken) said (head_of last final)
calls-row states taken [] last final none = row-none (head_of states taken)
calls-row states taken (x ∷ rest) last final (more {after = after} {recorded = recorded} c cs) =
    row-more (head_of states taken) (head_of after recorded) (head_of last final) x rest (call-heard states taken c)
    (call-left states taken c) (calls-row after recorded rest last final cs)

-- ---- four fresh states
fresh-made : (n at made : ℕ) (s : Kept) → GivesStateC (fresh_state n) 0 at made s → fresh n ≡ view s
unfolding fresh_state
fresh-made n at made s z = grind (arith, common_steps, state-back)

fresh-four : {a b c d : ℕ} (states : List Kept) → FourC a b c d states → new_head a b c d ≡ head_of states 4
fresh-four {a} {b} {c} {d} _ (four_fresh {x = x} {y = y} {z = z} {u = u} p q r s) = λ i. record {
  states = fresh-made a _ _ x p i ∷ fresh-made b _ _ y q i ∷ fresh-made c _ _ z r i ∷ fresh-made d _ _ u s i ∷ [];
  taken = 4;
}

-- ---- the two theorems
pub places-counted-c : PlacesCountedC
unfolding PlacesCountedC
places-counted-c a b c d states fours said last final cs =
    row-counted a b c d (head_of states 4) (fresh-four states fours) said (head_of last final) (calls-row states 4 said last final cs)
    (depths (map view last)) refl

pub own-walks-c : OwnWalkC
unfolding OwnWalkC OwnWalk
own-walks-c text before after at n c size low high k states inside returned at' made m taken said last final cs hands =
    subst (FollowsWalk size (contents text)) ((calls-row states taken said last final cs).made (contents text) k own_binding)
    (own-walks text before n (returned-0 text before after at n c) size low high k (head_of states taken)
    (omega (arith, inside, length-map states view))
    (sym (view-at states k) ∙ ap view m.state ∙ state-back (fresh_state size).state) (map call_of said)
    (subst (λ (b : List ℕ). AllByRecursion (HandsImage k (take n b)) (map call_of said)) c.written hands))

pub ruleset callers_see_own_walks = (own-walks-delivered, own-walks-c)

pub ruleset callers_see_places_balance = (places-delivered, places-counted-c)
