-- What one finished tick does to the depth of a fitting state, and one state put in its place to the sum of the depths.
use Rattle.std.proofs.Common.{ℕ, zero, suc, ◌+◌, ◌-◌, ◌≤◌, ◌<◌, Bool, true, false, ◌≡◌, refl, ap, List, [], ◌∷◌, length, set, arith, nat_le}
use Rattle.std.proofs.Common.{le-leb, ne_eqb}
use Rattle.std.proofs.lemmas.Grind.{common_steps}
use Rattle.results.specs.Results.{Results}
use Rattle.image.specs.Image.{Image}
use Rattle.image.specs.inner.Sound.{SoundImage}
use Rattle.rows.specs.Rows.{Found, found, missing}
use Rattle.state.specs.State.{State, label_at, place_at}
use Rattle.ticks.specs.Tick.{MachineTick, finished, stopped, moved_tick, full_tick, pushed_tick, popped_tick, tick}
use Rattle.spindles.specs.Spindles.{state_at, depths}
use Rattle.spindles.specs.spindle_places.PlacesBalance.{places_called, places_returned, places_given_back}

-- ---- one tick
-- the depth after it, what it gives back added, is the depth before, what it takes added
abbrev pub Deepens : ℕ → MachineTick → Type 0
Deepens d (finished m code t) = t.depth + places_returned code d + places_given_back code d ≡ d + places_called code d
Deepens d (stopped n) = Unit {0}

moved-deepens : (m code d : ℕ) (t : State) (k : ℕ) (f : Found)
    → t.depth + places_returned code d + places_given_back code d ≡ d + places_called code d
    → Deepens d (moved_tick m code t k f)
moved-deepens m code d t k (found l) e = e
moved-deepens m code d t k missing e = tt

full-deepens : (i : Image) (s : State) (m : ℕ) (b : Results) → 1 ≤ s.depth → Deepens s.depth (full_tick i s m b)
full-deepens i s m b l = grind (arith, common_steps)

pushed-deepens : (i : Image) (s : State) (m code h k : ℕ) (b : Results) (t : Bool) → 1 ≤ s.depth → 16 ≤ code → (code ≡ 96 → ⊥)
    → Deepens s.depth (pushed_tick i s m code h k b t)
pushed-deepens i s m code h k b true d l n = full-deepens i s m b d
pushed-deepens i s m code h k b false d l n = rw (le-leb 16 code l, ne_eqb code 3 (λ q. omega arith), ne_eqb code 96 n) (omega arith)

popped-deepens : (i : Image) (s : State) (w m : ℕ) (b : Results) (t : Bool) → nat_le s.depth 1 ≡ t → 1 ≤ s.depth
    → Deepens s.depth (popped_tick i s w m b t)
popped-deepens i s w m b true e l = grind (arith, common_steps)
popped-deepens i s w m b false e l = grind (arith, common_steps)

-- no call has the code of a drop: a scheme's number is at most 16
pub called-few : (i : Image) → SoundImage i → (l : ℕ) → l < length i.labels → (label_at i l).called ≤ 16
called-few i sound zero m = grind (arith, common_steps)
called-few i sound (suc zero) m = grind (arith, common_steps)
called-few i sound (suc (suc l)) m = grind (arith, common_steps)

pub tick-deepens : (i : Image) (s : State) (w : ℕ) → 1 ≤ s.depth → (label_at i (place_at s (s.depth - 1))).called ≤ 16
    → Deepens s.depth (tick i s w)
unfolding tick
tick-deepens i s w l few = grind (arith, common_steps, moved-deepens, pushed-deepens, popped-deepens)

-- ---- one state of a list
pub depths-set : (states : List State) (k : ℕ) (t : State) → k < length states
    → depths (set states k t) + (state_at states k).depth ≡ depths states + t.depth
unfolding depths
depths-set [] k t l = absurd (omega arith)
depths-set (s ∷ states) zero t l = omega arith
depths-set (s ∷ states) (suc k) t l = omega (arith, depths-set states k t (omega arith))

-- one of the same depth, in its place or past the end
pub depths-same : (states : List State) (k : ℕ) (t : State) → t.depth ≡ (state_at states k).depth → depths (set states k t) ≡ depths states
unfolding depths
depths-same [] k t e = refl
depths-same (s ∷ states) zero t e = ap (λ (d : ℕ). d + depths states) e
depths-same (s ∷ states) (suc k) t e = ap (λ (d : ℕ). s.depth + d) (depths-same states k t e)

pub depth-most : (states : List State) (k : ℕ) → k < length states → (state_at states k).depth ≤ depths states
unfolding depths
depth-most [] k l = absurd (omega arith)
depth-most (s ∷ states) zero l = omega arith
depth-most (s ∷ states) (suc k) l = omega (arith, depth-most states k (omega arith))
