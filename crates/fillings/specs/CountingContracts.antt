-- What a function that counts how often the stack fills promises.
use Rattle.std.specs.Prelude.{ℕ, ◌≡◌, Result, Ok, Err}
use Rattle.text.specs.declared.frames.refusals.Refusal.{Refusal}
use Rattle.text.specs.frames.Answer.{Reply, answer_reply}
use Rattle.fillings.specs.Counts.{FillingsOutcome}
use Rattle.fillings.specs.declared.fill_counts.Tally.{Tally}

-- what it answers: the three numbers, or why nothing is counted
abbrev pub FillingsAnswer : Type 0
FillingsAnswer = Result Tally Refusal

-- a tally counts nothing itself
abbrev pub fillings_reply : FillingsAnswer → Reply
fillings_reply a = answer_reply a 0

-- each number, 0 with a refusal
abbrev pub ended_of : FillingsAnswer → ℕ
ended_of (Ok t) = t.ended
ended_of (Err r) = 0

abbrev pub full_of : FillingsAnswer → ℕ
full_of (Ok t) = t.full
full_of (Err r) = 0

abbrev pub unmatched_of : FillingsAnswer → ℕ
unmatched_of (Ok t) = t.unmatched
unmatched_of (Err r) = 0

pub record GivesFillings (x : FillingsOutcome) (r : FillingsAnswer) : Type 0 where
  pub answered : fillings_reply r ≡ x.reply
  pub ended : ended_of r ≡ x.ended
  pub full : full_of r ≡ x.full
  pub unmatched : unmatched_of r ≡ x.unmatched
