-- What is promised of a tick that is judged by the places left after it.
use Rattle.std.specs.Prelude.{ℕ, ◌+◌, ◌-◌, ◌≡◌, Err, if◌then◌else◌}
use Rattle.text.specs.declared.frames.refusals.Refusal.TheVariants.{NoPlace}
use Rattle.state.specs.declared.State.{State as Kept}
use Rattle.runs.specs.TickOutcome.{TickAnswer}
use Rattle.spindles.specs.declared.SpinReport.{SpinReport}
use Rattle.spindles.specs.Spindles.{is_none_left}

-- the tick found its place, or is undone
abbrev pub settled_report : Kept → Kept → TickAnswer → ℕ → SpinReport
settled_report old new ticked taken =
    if is_none_left old.depth new.depth taken then record { answer = Err NoPlace; taken = taken }
    else record { answer = ticked; taken = taken + new.depth - old.depth }

pub record GivesSettled (old new : Kept) (ticked : TickAnswer) (taken : ℕ) (r : SpinReport) (after : Kept) : Type 0 where
  pub report : r ≡ settled_report old new ticked taken
  pub state : after ≡ (if is_none_left old.depth new.depth taken then old else new)
