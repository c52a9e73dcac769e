-- What a call from C that counts how often the stack fills hands back.
use Rattle.std.specs.Prelude.{ℕ, ◌≡◌}
use Rattle.fillings.specs.Counts.{FillingsOutcome}
use Rattle.fairleadow.specs.AnswersForC.{GivesReplyC}

-- a call that counts how often the stack fills: the three counts are written in every case, each 0 with a refusal
pub record GivesFillingsC (x : FillingsOutcome) (returned at made e f u : ℕ) : Type 0 where
  pub told : GivesReplyC x.reply returned at made
  pub ended : e ≡ x.ended
  pub full : f ≡ x.full
  pub unmatched : u ≡ x.unmatched
