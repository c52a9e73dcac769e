-- A call leaves the states of the other spindles as they were, and reads no more of them than their depths.
use Rattle.std.proofs.Common.{ℕ, ◌≤◌, ◌<◌, ◌≡◌, List, length, arith}
use Rattle.std.proofs.lemmas.Grind.{common_steps}
use Rattle.text.specs.frames.Verdict.{Verdict, fine, when}
use Rattle.image.specs.Check.{image_verdict}
use Rattle.tables.specs.Table.{is_bad_table}
use Rattle.state.specs.State.{State}
use Rattle.runs.specs.TickOutcome.{TickOutcome, image_tick}
use Rattle.runs.specs.machine.Live.{live_tick}
use Rattle.spindles.specs.Spindles.{state_at, depths, head_verdict, outcome_spun_on, spin, live_spin}
use Rattle.spindles.specs.Laws.{OthersLeft, AlikeSpins, OnlyDepths}

-- ---- what the tests before a tick tell
pub record Tried (v : Verdict) (states : List State) (taken k : ℕ) : Type 0 where
  pub named : k < 4
  pub accepted : v ≡ fine
  pub four : length states ≡ 4
  pub summed : depths states ≡ taken
  pub room : taken ≤ 64

pub tried : (v : Verdict) (states : List State) (taken k : ℕ) → head_verdict v states taken k ≡ fine → Tried v states taken k
tried v states taken k e = grind (arith, common_steps)

pub others-left : OthersLeft spin
unfolding OthersLeft spin
others-left t states taken k w j ne = grind (arith, common_steps)

pub live-others-left : OthersLeft live_spin
unfolding OthersLeft live_spin
live-others-left b states taken k w j ne = grind (arith, common_steps)

-- ---- two lists that differ in other states alone, but for their depths
module _ (v : Verdict) (go : State → TickOutcome) (states states' : List State) (taken k : ℕ) (l : length states ≡ length states')
    (d : depths states ≡ depths states') (s : state_at states k ≡ state_at states' k) where
  alike : AlikeSpins k (outcome_spun_on (head_verdict v states taken k) states taken k (λ _. go (state_at states k)))
      (outcome_spun_on (head_verdict v states' taken k) states' taken k (λ _. go (state_at states' k)))
  alike = grind (arith, common_steps)

pub only-depths : OnlyDepths spin
unfolding OnlyDepths spin
only-depths t states states' taken k w = alike (image_verdict t) (λ s. image_tick t s w) states states' taken k

pub live-only-depths : OnlyDepths live_spin
unfolding OnlyDepths live_spin
live-only-depths b states states' taken k w = alike (when 11 (is_bad_table b)) (λ s. live_tick b s w) states states' taken k
