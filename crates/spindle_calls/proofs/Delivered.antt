-- Calls in a row over the functions that meet their contracts: the places are counted, and each spindle makes the ticks of its own walk.
use Rattle.std.proofs.Common.{ℕ, ◌≡◌, refl, sym, ◌∙◌, ap, subst, List, [], ◌∷◌, map, arith, take, ne_eqb, ◌==◌}
use Rattle.std.proofs.lemmas.Grind.{common_steps}
use Rattle.std.proofs.lemmas.List.{length-map}
use Rattle.std.specs.List.{AllByRecursion}
use Rattle.bindings.specs.Binding.{own_binding}
use Rattle.text.specs.frames.Frame.{contents}
use Rattle.text.specs.frames.Answer.{Answer, Reply, reply_number}
use Rattle.state.specs.declared.State.{State as Kept}
use Rattle.state.specs.State.{State, fresh, fresh_state}
use Rattle.state.specs.Kept.{view}
use Rattle.state.proofs.Stored.{state-back}
use Rattle.agreement.specs.Calls.{TableOf}
use Rattle.agreement.proofs.OneCall.{prepared-rebind-is, table-prepared}
use Rattle.runs.specs.TickOutcome.{tick_reply, answered_mask, answered_code}
use Rattle.rebinding.specs.Rebind.{rebind, live_rebind, GivesRebindingOn}
use Rattle.spindles.specs.declared.SpinReport.{SpinReport}
use Rattle.spindles.specs.Spindles.{state_at, depths, SpinOutcome, spin, live_spin, GivesSpin}
use Rattle.spindles.proofs.Live.{live-spin-is}
use Rattle.spindles.specs.spindle_places.Calls.{head_after}
use Rattle.spindle_walks.specs.Walks.{HandsImage, FollowsWalk, OwnWalk}
use Rattle.spindle_walks.proofs.Walks.{own-walks}
use Rattle.spindle_calls.specs.ObservedCalls.{ObservedCall, call_of}
use Rattle.spindle_calls.specs.Delivered.{kept_at, observed_tick, SpindleCallOn, spin_call, spin_call_live, rebind_call, rebind_call_live}
use Rattle.spindle_calls.specs.Delivered.{SpindleCallsInTurn, none, more, FreshOne, PlacesDelivered, OwnWalkDelivered}
use Rattle.spindle_calls.proofs.KeptHeads.{head_of, view-at, spun-left, rebound-left}
use Rattle.spindle_calls.proofs.Held.{SpinEnds, refuses, finishes, spin-ends}
use Rattle.spindle_calls.proofs.Row.{Hears, hears_no, hears_tick, HeardFrom, CallsRow, row-none, row-more, row-counted}
use Rattle.std.proofs.lemmas.Bool.Decides.{nat_tests}

module _ (states : List Kept) (taken : ℕ) where
  -- ---- live calls, by their tables
  live-as : (image table : List ℕ) → TableOf image table → (k w : ℕ) (r : SpinReport) (after : List Kept)
      → GivesSpin (live_spin table (map view states) taken k w) states k r after
      → GivesSpin (spin image (map view states) taken k w) states k r after
  live-as image table t k w r after z = grind (arith, common_steps, live-spin-is, table-prepared)

  live-rebinding-as : (image table : List ℕ) → TableOf image table → (s : Kept) (n g : ℕ) (r : Answer) (after : Kept)
      → GivesRebindingOn (live_rebind table (view s) n g) s r after → GivesRebindingOn (rebind image (view s) n g) s r after
  live-rebinding-as image table t s n g r after z = grind (arith, common_steps, prepared-rebind-is, table-prepared)

  -- ---- what is heard of a tick
  hears-by : (k : ℕ) (r : SpinReport) {x : SpinOutcome} → SpinEnds (map view states) taken k x → tick_reply r.answer ≡ x.reply
      → answered_mask r.answer ≡ x.mask → answered_code r.answer ≡ x.code
      → Hears (state_at (map view states) k).depth x (observed_tick states k r)
  hears-by k r ends e f g = grind (arith, nat_tests, ne_eqb, hears_no, view-at, hears_tick)

  tick-heard : (image : List ℕ) (k w : ℕ) (r : SpinReport) (after : List Kept) → GivesSpin (spin image (map view states) taken k w) states k r after
      → Hears (state_at (map view states) k).depth (spin image (map view states) taken k w) (observed_tick states k r)
  tick-heard image k w r after z = hears-by k r (spin-ends image (map view states) taken k w) z.answered z.mask z.code

  call-heard : {x : ObservedCall} {after : List Kept} {recorded : ℕ} → SpindleCallOn states taken x after recorded
      → HeardFrom (head_of states taken) x
  call-heard (spin_call {image = image} {k = k} {w = w} {r = r} {after = after} z) = tick-heard image k w r after z
  call-heard (spin_call_live {image = image} {table = table} {k = k} {w = w} {r = r} {after = after} t z) =
      tick-heard image k w r after (live-as image table t k w r after z)
  call-heard (rebind_call z) = tt
  call-heard (rebind_call_live t z) = tt

  -- ---- what a call leaves
  call-left : {x : ObservedCall} {after : List Kept} {recorded : ℕ} → SpindleCallOn states taken x after recorded
      → head_after (head_of states taken) (call_of x) ≡ head_of after recorded
  call-left (spin_call {image = image} {k = k} {w = w} {r = r} {after = after} z) =
      spun-left states taken image k w after r.taken z.states z.taken
  call-left (spin_call_live {image = image} {table = table} {k = k} {w = w} {r = r} {after = after} t z) =
      let y = live-as image table t k w r after z in spun-left states taken image k w after r.taken y.states y.taken
  call-left (rebind_call {image = image} {k = k} {n = n} {g = g} {after = after} z) = rebound-left states taken image k n g after z.state
  call-left (rebind_call_live {image = image} {table = table} {k = k} {n = n} {g = g} {r = r} {after = after} t z) =
      rebound-left states taken image k n g after (live-rebinding-as image table t (kept_at states k) n g r after z).state

-- ---- any number of calls
pub calls-row : (states : List Kept) (taken : ℕ) (said : List ObservedCall) (last : List Kept) (final : ℕ)
    → SpindleCallsInTurn states taken said last final
    → CallsRow (head_of states taken) said (head_of last final)
calls-row states taken [] last final none = row-none (head_of states taken)
calls-row states taken (x ∷ rest) last final (more {after = after} {recorded = recorded} c cs) =
    row-more (head_of states taken) (head_of after recorded) (head_of last final) x rest (call-heard states taken c)
    (call-left states taken c) (calls-row after recorded rest last final cs)

-- ---- four fresh states
fresh-one : (n : ℕ) (s : Kept) → FreshOne n s → fresh n ≡ view s
unfolding fresh_state
fresh-one n s z = grind (arith, common_steps, state-back)

-- ---- the two theorems
pub places-delivered : PlacesDelivered
unfolding PlacesDelivered
places-delivered a b c d s₀ s₁ s₂ s₃ f₀ f₁ f₂ f₃ said last final cs =
    row-counted a b c d (head_of (s₀ ∷ s₁ ∷ s₂ ∷ s₃ ∷ []) 4)
    (λ i. record { states = fresh-one a s₀ f₀ i ∷ fresh-one b s₁ f₁ i ∷ fresh-one c s₂ f₂ i ∷ fresh-one d s₃ f₃ i ∷ []; taken = 4 })
    said (head_of last final) (calls-row (s₀ ∷ s₁ ∷ s₂ ∷ s₃ ∷ []) 4 said last final cs) (depths (map view last)) refl

pub own-walks-delivered : OwnWalkDelivered
unfolding OwnWalkDelivered OwnWalk
own-walks-delivered text before after answer c n e size low high k states inside made m at taken said last final cs hands =
    subst (FollowsWalk size (contents text)) ((calls-row states taken said last final cs).made (contents text) k own_binding)
    (own-walks text before n (sym c.answered ∙ e) size low high k (head_of states taken) (omega (arith, inside, length-map states view))
    (sym (view-at states k) ∙ ap view (at ∙ m.state) ∙ state-back (fresh_state size).state) (map call_of said)
    (subst (λ (b : List ℕ). AllByRecursion (HandsImage k (take n b)) (map call_of said)) c.written hands))
