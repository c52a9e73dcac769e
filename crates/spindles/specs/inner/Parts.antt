-- A call in parts, as the functions have it: what is tried of the list, and one spindle's turn by its own state.
use Rattle.std.specs.Prelude.{ℕ, ◌+◌, ◌-◌, Bool, ◌||◌, not, ◌≡◌, List, length, set, if◌then◌else◌, nat_lt, ◌==◌}
use Rattle.text.specs.declared.frames.refusals.TheConstants.{UNFIT, NO_PLACE}
use Rattle.text.specs.frames.Verdict.{Verdict}
use Rattle.text.specs.frames.Answer.{Reply, refusal, reply_number}
use Rattle.image.specs.Image.{Image}
use Rattle.state.specs.State.{State}
use Rattle.state.specs.Kept.{stored}
use Rattle.state.specs.declared.State.{State as Kept}
use Rattle.runs.specs.TickOutcome.{TickOutcome, tick_reply, answered_mask, answered_code}
use Rattle.runs.specs.inner.Sources.{sourced_tick}
use Rattle.spindles.specs.declared.layout.TheConstants.{SPINDLES, STORE}
use Rattle.spindles.specs.declared.SpinReport.{SpinReport}
use Rattle.spindles.specs.Spindles.{state_at, head_verdict, SpinOutcome, outcome_turned_back, has_no_place, outcome_spun_on}

-- the depths do not sum to the record, or it is above 64
abbrev pub is_bad_record : ℕ → ℕ → Bool
is_bad_record sum taken = not (sum == taken) || nat_lt STORE taken

-- ---- the turn of one spindle: what is told of it, and its state after it
pub record TurnOutcome : Type 0 where
  pub reply : Reply
  pub mask : ℕ
  pub code : ℕ
  pub taken : ℕ
  pub state : State

abbrev pub unchanged_turn : ℕ → State → ℕ → TurnOutcome
unchanged_turn n s taken = record { reply = refusal n 0 0; mask = 0; code = 0; taken = taken; state = s }

abbrev pub turn_by : State → ℕ → TickOutcome → TurnOutcome
turn_by s taken x =
    if has_no_place taken s x then unchanged_turn NO_PLACE s taken
    else record { reply = x.reply; mask = x.mask; code = x.code; taken = taken + x.state.depth - s.depth; state = x.state }

-- by its state, the sum of the four depths, the record and its tick
abbrev pub turn : State → ℕ → ℕ → TickOutcome → TurnOutcome
turn s sum taken x = if is_bad_record sum taken then unchanged_turn UNFIT s taken else turn_by s taken x

-- what a function promises that makes a turn of a state: a refused one leaves it as it was
pub record GivesTurn (x : TurnOutcome) (before : Kept) (r : SpinReport) (after : Kept) : Type 0 where
  pub answered : tick_reply r.answer ≡ x.reply
  pub mask : answered_mask r.answer ≡ x.mask
  pub code : answered_code r.answer ≡ x.code
  pub taken : r.taken ≡ x.taken
  pub state : after ≡ (if reply_number x.reply == 0 then stored x.state else before)

-- ---- a call by any source of a table: by what its bytes are refused for and the image that they hold
unfoldable pub sourced_spin : Verdict → Image → List State → ℕ → ℕ → ℕ → SpinOutcome
sourced_spin v i states taken k w =
    outcome_spun_on (head_verdict v states taken k) states taken k (λ _. sourced_tick v i (state_at states k) w)

-- ---- the two parts of a call
abbrev pub depth_at : List State → ℕ → ℕ
depth_at states k = (state_at states k).depth

abbrev pub four_depths : List State → ℕ
four_depths states = depth_at states 0 + depth_at states 1 + depth_at states 2 + depth_at states 3

-- the list with the state that the turn left put in
abbrev pub turn_spun : List State → ℕ → TurnOutcome → SpinOutcome
turn_spun states k x = record { reply = x.reply; mask = x.mask; code = x.code; states = set states k x.state; taken = x.taken }

abbrev pub spin_in_parts : List State → ℕ → ℕ → TickOutcome → SpinOutcome
spin_in_parts states taken k x =
    if length states == SPINDLES then turn_spun states k (turn (state_at states k) (four_depths states) taken x)
    else outcome_turned_back UNFIT 0 states taken
