-- What a call from C that tells what made a tick go on hands back.
use Rattle.std.specs.Prelude.{ℕ, ◌≡◌, List}
use Rattle.cause.specs.Cause as cause
use Rattle.state.specs.declared.State.{State as Kept}
use Rattle.state.specs.State.{Sized}
use Rattle.state.specs.Kept.{view}
use Rattle.fairleadow.specs.AnswersForC.{GivesReplyC}

-- what made the tick of a state that C keeps go on
abbrev pub cause_for : List ℕ → Kept → ℕ → cause.CauseOutcome
cause_for image state word = cause.explain image (view state) word

-- a call that tells it: row, mask and bit are written in every case, each 0 with a refusal
pub record GivesCauseC (s : Kept) (x : cause.CauseOutcome) (returned at made k m b : ℕ) : Type 0 where
  pub told : GivesReplyC x.reply returned at made
  pub row : k ≡ x.cause.row
  pub mask : m ≡ x.cause.mask
  pub bit : b ≡ x.cause.bit
  pub sized : Sized (view s)
