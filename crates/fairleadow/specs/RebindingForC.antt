-- What a call from C that rebinds hands back, and the state that it leaves.
use Rattle.std.specs.Prelude.{ℕ, ◌≡◌, List, if◌then◌else◌, ◌==◌}
use Rattle.text.specs.frames.Answer.{reply_number}
use Rattle.state.specs.State.{StateOutcome}
use Rattle.rebinding.specs.Rebind.{rebind, live_rebind}
use Rattle.state.specs.declared.State.{State as Kept}
use Rattle.state.specs.Kept.{view, stored}
use Rattle.fairleadow.specs.AnswersForC.{GivesReplyC}

-- a rebinding in a state that C keeps, and the same on a prepared table
abbrev pub rebind_for : List ℕ → Kept → ℕ → ℕ → StateOutcome
rebind_for image state number scheme = rebind image (view state) number scheme

abbrev pub live_rebind_for : List ℕ → Kept → ℕ → ℕ → StateOutcome
live_rebind_for table state number scheme = live_rebind table (view state) number scheme

-- a call that rebinds, with the state before it and after it
pub record GivesRebindingC (x : StateOutcome) (before : Kept) (returned at made : ℕ) (after : Kept) : Type 0 where
  pub told : GivesReplyC x.reply returned at made
  pub state : after ≡ (if reply_number x.reply == 0 then stored x.state else before)
