-- What a call from C that prices a run hands back, and the state that it leaves.
use Rattle.std.specs.Prelude.{ℕ, ◌≡◌, List}
use Rattle.prices.specs.priced_runs.PricedRun.{PricedOutcome, priced_run}
use Rattle.prices.specs.priced_runs.InPlace.{state_priced}
use Rattle.state.specs.declared.State.{State as Kept}
use Rattle.state.specs.Kept.{view}
use Rattle.fairleadow.specs.AnswersForC.{GivesReplyC}

-- a priced run on a state that C keeps
abbrev pub priced_run_for : List ℕ → Kept → List ℕ → List ℕ → List ℕ → List ℕ → PricedOutcome
priced_run_for image state prices words masks codes = priced_run image (view state) prices words masks codes

-- a call that prices a run: what a call that runs hands back, and the price, which is written in every case
pub record GivesPricedRunC (x : PricedOutcome) (words : List ℕ) (before : Kept) (returned at made : ℕ)
    (after : Kept) (ms ks : List ℕ) (cents : ℕ) : Type 0 where
  pub told : GivesReplyC x.run.reply returned at made
  pub state : after ≡ state_priced words before x.run
  pub masks : ms ≡ x.run.masks
  pub codes : ks ≡ x.run.codes
  pub price : cents ≡ x.price
