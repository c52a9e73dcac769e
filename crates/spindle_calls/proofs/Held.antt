-- What a call hands back by its number, and the list of states after a call from C.
use Rattle.std.proofs.Common.{if◌then◌else◌, ℕ, ◌+◌, ◌-◌, ◌≤◌, ◌≡◌, refl, sym, ◌∙◌, ap, subst, Bool, true, false, List, arith, map, set}
use Rattle.std.proofs.lemmas.Grind.{common_steps}
use Rattle.text.specs.frames.Verdict.{Verdict, fine, refused, when}
use Rattle.text.specs.frames.Answer.{success}
use Rattle.text.proofs.frames.Refuses.{RefusesWith, next-refuses, when-refuses}
use Rattle.image.specs.Image.{Image}
use Rattle.image.specs.Check.{image_verdict}
use Rattle.image.proofs.Refuses.{early-image}
use Rattle.state.specs.State.{State}
use Rattle.state.specs.Kept.{view}
use Rattle.fitness.specs.Fitness.{is_unfit}
use Rattle.ticks.specs.Tick.{MachineTick, finished, stopped, tick}
use Rattle.ticks.proofs.Normal.{Normal, tick-normal}
use Rattle.runs.proofs.machine.OneTick.{advance_by}
use Rattle.spindles.specs.Spindles.{state_at, head_verdict, SpinOutcome, outcome_turned_back, is_none_left, outcome_spun_by}
use Rattle.spindles.specs.Spindles.{outcome_spun_on, spin}
use Rattle.spindles.proofs.OneCall.{tick_tried, tick_by_verdict, spin_by, spin-by, kept-by}
use Rattle.spindles.proofs.spindle_list.Viewed.{views-spun, live-views-spun}
use Rattle.fairleadow.specs.SpindlesForC.{spin_for, live_spin_for}
use Rattle.spindle_calls.specs.Held.{ListHolds}

-- no number of an image is 0
abbrev NumberedVerdict : Verdict → Type 0
NumberedVerdict v = RefusesWith (λ n. 1 ≤ n) v

image-numbered : (t : List ℕ) → NumberedVerdict (image_verdict t)
image-numbered t = grind (arith, common_steps, early-image)

-- a call is refused by a number that is not 0, or the spindle's tick is finished and its state is put in its place
pub data SpinEnds (states : List State) (taken k : ℕ) : SpinOutcome → Type 0 where
  refuses : (n j : ℕ) → 1 ≤ n → SpinEnds states taken k (outcome_turned_back n j states taken)
  finishes : (m code : ℕ) (t : State) → SpinEnds states taken k (record {
    reply = success 1;
    mask = m;
    code = code;
    states = set states k t;
    taken = taken + t.depth - (state_at states k).depth;
  })

module _ (v : Verdict) (numbered : NumberedVerdict v) (i : Image) (states : List State) (taken k w : ℕ) where
  abbrev s : State
  s = state_at states k

  ends-by : (u : Verdict) → NumberedVerdict u → (d : MachineTick) → Normal s d
      → SpinEnds states taken k (outcome_spun_by states taken k (advance_by s u d))
  ends-by (refused n j) l d e = subst (SpinEnds states taken k) (sym (kept-by states taken k n j)) (refuses n j l)
  ends-by fine l (stopped n) e = subst (SpinEnds states taken k) (sym (kept-by states taken k n 0)) (refuses n 0 (omega arith))
  ends-by fine l (finished m code t) e = go (is_none_left s.depth t.depth taken)
    where
      go : (b : Bool) → SpinEnds states taken k (if b then outcome_turned_back 26 0 states taken
          else record { reply = success 1; mask = m; code = code; states = set states k t; taken = taken + t.depth - s.depth })
      go true = refuses 26 0 (omega arith)
      go false = finishes m code t

  head-numbered : NumberedVerdict (head_verdict v states taken k)
  head-numbered = grind (arith, common_steps)

  ends : SpinEnds states taken k (spin_by v i states taken k w)
  ends = go (head_verdict v states taken k) refl head-numbered
    where
      go : (h : Verdict) → head_verdict v states taken k ≡ h → NumberedVerdict h
          → SpinEnds states taken k (outcome_spun_on h states taken k (λ _. tick_by_verdict v i (state_at states k) w))
      go (refused n j) e l = refuses n j l
      go fine e l =
          ends-by (tick_tried v i s)
          (next-refuses (λ n. 1 ≤ n) v (λ _. when 15 (is_unfit i s)) numbered (when-refuses (λ n. 1 ≤ n) 15 (is_unfit i s) (omega arith)))
          (tick i s w) (tick-normal i s w)

pub spin-ends : (t : List ℕ) (states : List State) (taken k w : ℕ) → SpinEnds states taken k (spin t states taken k w)
spin-ends t states taken k w = grind (arith, common_steps, image-numbered, spin-by, ends)

-- ---- the list after it
pub spin-list-holds : ListHolds spin_for
unfolding ListHolds
spin-list-holds t states taken k w m₀ k₀ returned at made after recorded m code z =
    ap (map view) z.states ∙ views-spun states taken k w t

pub live-spin-list-holds : ListHolds live_spin_for
unfolding ListHolds
live-spin-list-holds t states taken k w m₀ k₀ returned at made after recorded m code z =
    ap (map view) z.states ∙ live-views-spun states taken k w t

pub ruleset list_holds_the_states = (spin-list-holds, live-spin-list-holds)
