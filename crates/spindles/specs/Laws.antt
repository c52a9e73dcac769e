-- What holds of one call: a refusal changes nothing, the other three states stay, and of them no more than the depths is read.
use Rattle.std.specs.Prelude.{ℕ, suc, ◌≤◌, ◌≡◌, List, length}
use Rattle.text.specs.declared.frames.refusals.TheConstants.{FULL}
use Rattle.text.specs.frames.Verdict.{fine}
use Rattle.text.specs.frames.Answer.{reply_number, refusal}
use Rattle.image.specs.Check.{image_verdict}
use Rattle.state.specs.State.{State}
use Rattle.runs.specs.TickOutcome.{image_tick}
use Rattle.spindles.specs.Spindles.{state_at, depths, head_verdict, SpinOutcome, spin}

-- a call on an image, and one on a table
abbrev pub Spinner : Type 0
Spinner = List ℕ → List State → ℕ → ℕ → ℕ → SpinOutcome

-- a call that is refused, for want of a place or else, leaves the states and the record as they were
pub record Unchanged (before : List State) (recorded : ℕ) (r : SpinOutcome) : Type 0 where
  pub states : r.states ≡ before
  pub taken : r.taken ≡ recorded
  pub mask : r.mask ≡ 0
  pub code : r.code ≡ 0

unfoldable pub RefusedLeaves : Spinner → Type 0
RefusedLeaves f =
    (t : List ℕ) (states : List State) (taken k w n : ℕ) → reply_number (f t states taken k w).reply ≡ suc n
    → Unchanged states taken (f t states taken k w)

-- where all that is tried before the tick is passed: a call that gets 17 gets it whatever is recorded as taken, and a tick that ends no
-- deeper than it began, a drop or a return among them, needs no place and goes ahead
unfoldable pub FullFirst : Type 0
FullFirst =
    (t : List ℕ) (states : List State) (taken k w : ℕ) → head_verdict (image_verdict t) states taken k ≡ fine
    → (image_tick t (state_at states k) w).reply ≡ refusal FULL 0 0 → (spin t states taken k w).reply ≡ refusal FULL 0 0

unfoldable pub LevelGoes : Type 0
LevelGoes =
    (t : List ℕ) (states : List State) (taken k w : ℕ) → head_verdict (image_verdict t) states taken k ≡ fine
    → let x = image_tick t (state_at states k) w in x.state.depth ≤ (state_at states k).depth → (spin t states taken k w).reply ≡ x.reply

-- the other states are left as they were
unfoldable pub OthersLeft : Spinner → Type 0
OthersLeft f =
    (t : List ℕ) (states : List State) (taken k w j : ℕ) → (j ≡ k → ⊥) → state_at (f t states taken k w).states j ≡ state_at states j

-- two calls that hand back the same but for the other states
pub record AlikeSpins (k : ℕ) (r r' : SpinOutcome) : Type 0 where
  pub reply : r.reply ≡ r'.reply
  pub mask : r.mask ≡ r'.mask
  pub code : r.code ≡ r'.code
  pub taken : r.taken ≡ r'.taken
  pub state : state_at r.states k ≡ state_at r'.states k

-- whatever else differs in the other states, or how their depths share one sum
unfoldable pub OnlyDepths : Spinner → Type 0
OnlyDepths f =
    (t : List ℕ) (states states' : List State) (taken k w : ℕ)
    → length states ≡ length states' → depths states ≡ depths states' → state_at states k ≡ state_at states' k
    → AlikeSpins k (f t states taken k w) (f t states' taken k w)
