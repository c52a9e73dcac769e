-- A priced run on a state that the caller keeps: what it promises, and the state that it leaves.
use Rattle.std.specs.Prelude.{ℕ, ◌≡◌, List, if◌then◌else◌}
use Rattle.text.specs.frames.Answer.{Answer, reply}
use Rattle.runs.specs.Run.{RunOutcome}
use Rattle.runs.specs.InPlace.{state_after}
use Rattle.prices.specs.priced_runs.PricedRun.{has_too_many_words, PricedOutcome}
use Rattle.state.specs.declared.State.{State as Kept}

-- more words than are priced leave the state as it was, whatever refuses them; else it is as after any run
unfoldable pub state_priced : List ℕ → Kept → RunOutcome → Kept
state_priced words before r = if has_too_many_words words then before else state_after before r

-- of a state that is lent, and of one by value, which is handed back
pub record GivesPricedRunOn (x : PricedOutcome) (words : List ℕ) (before : Kept) (answer : Answer) (cents : ℕ) (after : Kept)
    (ms ks : List ℕ) : Type 0 where
  pub answered : reply answer ≡ x.run.reply
  pub price : cents ≡ x.price
  pub state : after ≡ state_priced words before x.run
  pub masks : ms ≡ x.run.masks
  pub codes : ks ≡ x.run.codes
