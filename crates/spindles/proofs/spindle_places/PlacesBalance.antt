-- After every list of calls the depths sum to 4 and the finished calls, less the returns above depth 1 and what drops gave back, and do
-- not pass 64.
use Rattle.std.proofs.Common.{ℕ, zero, suc, ◌+◌, ◌-◌, ◌≤◌, ◌<◌, false, ◌≡◌, refl, subst, List, [], ◌∷◌, length}
use Rattle.std.proofs.Common.{set, length-set, get_or-set_other, arith}
use Rattle.std.proofs.lemmas.Grind.{common_steps}
use Rattle.text.specs.frames.Frame.{contents}
use Rattle.image.specs.Image.{Image}
use Rattle.image.specs.Decode.{decoded_image}
use Rattle.image.specs.Check.{image_verdict}
use Rattle.image.specs.inner.Sound.{SoundImage}
use Rattle.image.proofs.Accepted.{image-sound}
use Rattle.state.specs.State.{State, place_at, Sized}
use Rattle.state.proofs.Stored.{fresh-sized}
use Rattle.fitness.proofs.Fitness.{Fits, unfits}
use Rattle.ticks.specs.Tick.{finished}
use Rattle.ticks.proofs.Keeps.{Keeps, tick-keeps}
use Rattle.rebinding.specs.Rebind.{rebind}
use Rattle.rebinding.proofs.Keeps.{rebinding-sized}
use Rattle.spindles.specs.Spindles.{state_at, depths, is_none_left, SpinOutcome}
use Rattle.spindles.proofs.OneCall.{Comes, turns_back, on, comes, spin-by}
use Rattle.spindles.proofs.Others.{Tried, tried}
use Rattle.spindles.specs.spindle_places.Calls.{Head, new_head, SpindleCall, spins, rebinds, head_after, head_after_all}
use Rattle.spindles.specs.spindle_places.PlacesBalance.{places_called, places_returned, places_given_back, counts, tally, PlacesBalance}
use Rattle.spindles.specs.spindle_places.PlacesBalance.{PlacesCounted}
use Rattle.spindles.proofs.spindle_places.Depths.{Deepens, called-few, tick-deepens, depths-set, depths-same, depth-most}

-- ---- what every call keeps
pub record KeptHead (h : Head) : Type 0 where
  pub four : length h.states ≡ 4
  pub whole : (k : ℕ) → k < 4 → Sized (state_at h.states k)
  pub summed : depths h.states ≡ h.taken
  pub room : h.taken ≤ 64

-- and what it adds
pub record CallStep (h : Head) (a : SpindleCall) : Type 0 where
  pub kept : KeptHead (head_after h a)
  pub adds : (head_after h a).taken + counts places_returned h a + counts places_given_back h a ≡ h.taken + counts places_called h a

-- one state put into the list
module _ (h : Head) (q : KeptHead h) (k : ℕ) (t : State) (sized : Sized t) where
  put-whole : (j : ℕ) → j < 4 → Sized (state_at (set h.states k t) j)
  put-whole j m = grind (arith, common_steps)

-- ---- a tick
module _ (h : Head) (q : KeptHead h) (k : ℕ) (l : k < 4) where
  abbrev s : State
  s = state_at h.states k

  abbrev put : State → Head
  put t = record { states = set h.states k t; taken = h.taken + t.depth - s.depth }

  put-room : (m code : ℕ) (t : State) → Deepens s.depth (finished m code t) → is_none_left s.depth t.depth h.taken ≡ false
      → h.taken + t.depth - s.depth ≤ 64
  put-room m code t d free = grind (arith, common_steps)

  put-kept : (m code : ℕ) (t : State) → Sized t → Deepens s.depth (finished m code t) → is_none_left s.depth t.depth h.taken ≡ false
      → KeptHead (put t)
  put-kept m code t w d free = grind (arith, common_steps, depths-set, depth-most, length-set, put-whole, put-room)

  put-adds : (m code : ℕ) (t : State) → Deepens s.depth (finished m code t)
      → h.taken + t.depth - s.depth + places_returned code s.depth + places_given_back
      code s.depth ≡ h.taken + places_called code s.depth
  put-adds m code t d = grind (arith, common_steps, depth-most)

-- a refusal takes nothing
none : (taken : ℕ) → taken + 0 + 0 ≡ taken + 0
none taken = omega arith

module _ (t : List ℕ) (k w : ℕ) (h : Head) (q : KeptHead h) where
  -- what a call leaves by what it hands back
  abbrev After : SpinOutcome → Type 0
  After r = KeptHead (record { states = r.states; taken = r.taken })
      × (r.taken + places_returned r.code (state_at h.states k).depth + places_given_back r.code (state_at h.states k).depth
      ≡ h.taken + places_called r.code (state_at h.states k).depth)

  after : {r : SpinOutcome} → Comes (image_verdict t) (decoded_image (contents t)) h.states h.taken k w r → After r
  after (turns_back n j) = (q, none h.taken)
  after (on m code u passed fit e free) =
      let z : Tried (image_verdict t) h.states h.taken k = tried (image_verdict t) h.states h.taken k passed in
      let i : Image = decoded_image (contents t) in
      let sound : SoundImage i = image-sound t z.accepted in
      let o : State = state_at h.states k in
      let f : Fits i o = unfits i o (q.whole k z.named) fit in
      let d : Deepens o.depth (finished m code u) = subst (Deepens o.depth) e
      (tick-deepens i o w f.some (called-few i sound (place_at o (o.depth - 1)) (f.labels (o.depth - 1) (omega (arith, f.some))))) in
      let kept : Keeps i sound (finished m code u) = subst (Keeps i sound) e (tick-keeps i sound o f w) in
      (put-kept h q k z.named m code u kept.whole d free, put-adds h q k z.named m code u d)

  spin-step : CallStep h (spins t k w)
  spin-step = grind (arith, common_steps, comes, spin-by, after)

-- ---- a rebinding
rebind-step : (t : List ℕ) (k n g : ℕ) (h : Head) → KeptHead h → CallStep h (rebinds t k n g)
unfolding rebind
rebind-step t k n g h q = grind (arith, common_steps, length-set, rebinding-sized, depths-same, get_or-set_other, put-whole, none)

-- ---- any number of calls
call-step : (a : SpindleCall) (h : Head) → KeptHead h → CallStep h a
call-step (spins t k w) h q = spin-step t k w h q
call-step (rebinds t k n g) h q = rebind-step t k n g h q

calls-count : (calls : List SpindleCall) (h : Head) → KeptHead h → PlacesBalance h calls
unfolding head_after_all tally
calls-count [] h q = grind (arith, common_steps)
calls-count (a ∷ rest) h q = grind (arith, common_steps, calls-count rest, call-step)

pub places-counted : PlacesCounted
unfolding PlacesCounted depths
places-counted a b c d calls =
    calls-count calls (new_head a b c d) (record { four = refl; whole = whole; summed = refl; room = omega arith })
  where
    whole : (k : ℕ) → k < 4 → Sized (state_at (new_head a b c d).states k)
    whole zero l = fresh-sized a
    whole (suc zero) l = fresh-sized b
    whole (suc (suc zero)) l = fresh-sized c
    whole (suc (suc (suc zero))) l = fresh-sized d
    whole (suc (suc (suc (suc k)))) l = absurd (omega arith)
