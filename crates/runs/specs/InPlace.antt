-- A run and a tick on a state that the caller keeps: what they promise, and the state that they leave.
use Rattle.std.specs.Prelude.{ℕ, Bool, ◌&&◌, ◌≡◌, List, if◌then◌else◌, nat_le, ◌==◌}
use Rattle.text.specs.declared.frames.refusals.TheConstants.{BAD_LENGTH, NO_ROOM}
use Rattle.text.specs.frames.Answer.{Answer, reply_number, reply}
use Rattle.state.specs.Kept.{stored}
use Rattle.runs.specs.Run.{RunOutcome}
use Rattle.runs.specs.TickOutcome.{TickOutcome, TickAnswer, tick_reply, answered_mask, answered_code}
use Rattle.state.specs.declared.State.{State as Kept}

-- refusals that change no state
abbrev pub is_without_change : ℕ → Bool
is_without_change n = nat_le BAD_LENGTH n && nat_le n NO_ROOM

-- refusals 1 to 16 of a run leave the state as it was
unfoldable pub state_after : Kept → RunOutcome → Kept
state_after before r = if is_without_change (reply_number r.reply) then before else stored r.state

-- a tick that is refused leaves what it was lent as it was
abbrev pub if_ticked : {A : Type 0} → TickOutcome → A → A → A
if_ticked a new old = if reply_number a.reply == 0 then new else old

-- of a state that is lent, and of one by value, which is handed back
pub record GivesRunOn (x : RunOutcome) (before : Kept) (answer : Answer) (after : Kept) (ms ks : List ℕ) : Type 0 where
  pub answered : reply answer ≡ x.reply
  pub state : after ≡ state_after before x
  pub masks : ms ≡ x.masks
  pub codes : ks ≡ x.codes

pub record GivesTickOn (x : TickOutcome) (before : Kept) (answer : TickAnswer) (after : Kept) : Type 0 where
  pub answered : tick_reply answer ≡ x.reply
  pub mask : answered_mask answer ≡ x.mask
  pub code : answered_code answer ≡ x.code
  pub state : after ≡ if_ticked x (stored x.state) before
