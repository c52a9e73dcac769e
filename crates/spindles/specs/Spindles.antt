-- Four spindles that share 64 places: a call makes one tick of the spindle that it names. Refusals 25 and 26.
use Rattle.std.specs.Prelude.{ℕ, ◌+◌, ◌-◌, Bool, ◌&&◌, ◌||◌, not, ◌≡◌, List, [], ◌∷◌, length, set, if◌then◌else◌, nat_lt, nat_le, ◌==◌, slice_index_or}
use Rattle.text.specs.declared.frames.refusals.TheConstants.{BAD_HEADER, UNFIT, NO_SPINDLE, NO_PLACE}
use Rattle.text.specs.frames.Verdict.{Verdict, fine, refused, next, when}
use Rattle.text.specs.frames.Answer.{Reply, refusal, reply_number}
use Rattle.image.specs.Check.{image_verdict}
use Rattle.tables.specs.Table.{is_bad_table}
use Rattle.state.specs.State.{State, no_state}
use Rattle.state.specs.Kept.{stored}
use Rattle.state.specs.declared.State.{State as Kept}
use Rattle.runs.specs.TickOutcome.{TickOutcome, image_tick, tick_reply, answered_mask, answered_code}
use Rattle.runs.specs.machine.Live.{live_tick}
use Rattle.spindles.specs.declared.layout.TheConstants.{SPINDLES, STORE}
use Rattle.spindles.specs.declared.SpinReport.{SpinReport}

abbrev pub state_at : List State → ℕ → State
state_at states k = slice_index_or states k no_state

unfoldable pub depths : List State → ℕ
depths [] = 0
depths (s ∷ states) = s.depth + depths states

-- 15: not four states, or the places recorded as taken are not their depths, or are more than 64
abbrev pub is_bad_head : List State → ℕ → Bool
is_bad_head states taken = not (length states == SPINDLES) || not (depths states == taken) || nat_lt STORE taken

-- 25, what the image or the table is refused for, and 15 by the list and the record
abbrev pub head_verdict : Verdict → List State → ℕ → ℕ → Verdict
head_verdict v states taken k =
    next (when NO_SPINDLE (nat_lt 3 k)) λ _.
    next v λ _.
    when UNFIT (is_bad_head states taken)

-- what a call hands back
pub record SpinOutcome : Type 0 where
  pub reply : Reply
  pub mask : ℕ
  pub code : ℕ
  pub states : List State
  pub taken : ℕ

-- a refusal leaves the states and the record as they were
abbrev pub outcome_turned_back : ℕ → ℕ → List State → ℕ → SpinOutcome
outcome_turned_back n i states taken = record { reply = refusal n i 0; mask = 0; code = 0; states = states; taken = taken }

-- 26, by the depths before and after the tick: it ends deeper than it began, which of all ticks a call alone does, and no place is left;
-- such a call got no 17, and none gets 18
abbrev pub is_none_left : ℕ → ℕ → ℕ → Bool
is_none_left before after taken = nat_lt before after && nat_le STORE taken

abbrev pub has_no_place : ℕ → State → TickOutcome → Bool
has_no_place taken s x = is_none_left s.depth x.state.depth taken

-- the spindle's own tick; one that is refused hands back the state as it was
abbrev pub outcome_spun_by : List State → ℕ → ℕ → TickOutcome → SpinOutcome
outcome_spun_by states taken k x = let s = state_at states k in
    if has_no_place taken s x then outcome_turned_back NO_PLACE 0 states taken
    else record {
      reply = x.reply;
      mask = x.mask;
      code = x.code;
      states = set states k x.state;
      taken = taken + x.state.depth - s.depth;
    }

abbrev pub outcome_spun_on : Verdict → List State → ℕ → ℕ → (Unit {0} → TickOutcome) → SpinOutcome
outcome_spun_on (refused n i) states taken k go = outcome_turned_back n i states taken
outcome_spun_on fine states taken k go = outcome_spun_by states taken k (go tt)

-- the states, the places taken, the spindle's number k, its image t and the word w
unfoldable pub spin : List ℕ → List State → ℕ → ℕ → ℕ → SpinOutcome
spin t states taken k w =
    outcome_spun_on (head_verdict (image_verdict t) states taken k) states taken k (λ _. image_tick t (state_at states k) w)

-- the same on a prepared table, whatever its bytes are
unfoldable pub live_spin : List ℕ → List State → ℕ → ℕ → ℕ → SpinOutcome
live_spin b states taken k w =
    outcome_spun_on (head_verdict (when BAD_HEADER (is_bad_table b)) states taken k) states taken k (λ _. live_tick b (state_at states k) w)

-- ---- the list of states as it is kept, with its result bytes
-- a finished tick of spindle k writes its state and no other; a refused one leaves all as they were
abbrev pub if_spun : {A : Type 0} → SpinOutcome → A → A → A
if_spun x new old = if reply_number x.reply == 0 then new else old

abbrev pub states_spun : List Kept → ℕ → SpinOutcome → List Kept
states_spun before k x = if_spun x (set before k (stored (state_at x.states k))) before

-- what a function over the list promises: its report, and the list after it
pub record GivesSpin (x : SpinOutcome) (before : List Kept) (k : ℕ) (r : SpinReport) (after : List Kept) : Type 0 where
  pub answered : tick_reply r.answer ≡ x.reply
  pub mask : answered_mask r.answer ≡ x.mask
  pub code : answered_code r.answer ≡ x.code
  pub taken : r.taken ≡ x.taken
  pub states : after ≡ states_spun before k x
