-- A list with priced runs hands back what the list of runs in their place does, with the prices.
use Rattle.std.proofs.Common.{if◌then◌else◌, ℕ, Bool, true, false, ◌≡◌, refl, ap, List, [], ◌∷◌, map, take, ltb-true, arith}
use Rattle.std.proofs.Common.{ltb-false}
use Rattle.std.proofs.lemmas.Grind.{common_steps}
use Rattle.text.specs.frames.Answer.{reply_number, reply_count}
use Rattle.state.specs.State.{State}
use Rattle.runs.specs.Run.{RunOutcome, run}
use Rattle.rebinding.specs.Rebind.{rebind}
use Rattle.prices.specs.Prices.{price}
use Rattle.prices.specs.priced_runs.PricedRun.{has_too_many_words, PricedOutcome, priced_run}
use Rattle.prices.proofs.priced_runs.Pricing.{does-all, by-the-masks}
use Rattle.prices.proofs.priced_runs.EntryCases.{none-state, many-refused}
use Rattle.agreement.specs.Agreement.{RunInput, output_of, to_run, to_rebind, CallOutput, by_run, by_rebinding}
use Rattle.priced.specs.Demand.{PricedInput, unpriced, to_priced_run, PricedOutput, by_unpriced, by_priced_run, priced_outputs}
use Rattle.priced.specs.Demand.{output_refused_many}
use Rattle.priced.proofs.AsRuns.{no_words, as_run, with_prices, AllSucceed}
use Rattle.agreement.specs.Agreement as agreed

module _ (image : List ℕ) where
  abbrev made : State → List PricedInput → List PricedOutput
  made s given = priced_outputs priced_run run rebind image s given

  abbrev plain : State → List PricedInput → List CallOutput
  plain s given = agreed.call_outputs run rebind image s (map as_run given)

  abbrev As : State → List PricedInput → Type 0
  As s given = AllSucceed given (plain s given) → made s given ≡ with_prices given (plain s given)

  module _ (list : List ℕ) (a : RunInput) (rest : List PricedInput) (s : State) (ih : (z : State) → As z rest) where
    abbrev priced : PricedOutcome
    priced = priced_run image s list a.words a.masks a.codes

    abbrev ran : Bool → RunOutcome
    ran t = let b = (if t then no_words a else a) in run image s b.words b.masks b.codes

    -- the run in its place, with a price
    abbrev with_run : RunOutcome → PricedOutput
    with_run r = by_priced_run (output_of r) (price list (take (reply_count r.reply) r.masks))

    abbrev Goal : Bool → Type 0
    Goal t = by_priced_run (output_of priced.run) priced.price ∷ made priced.run.state rest
        ≡ (if has_too_many_words a.words then by_priced_run (output_refused_many a) 0 else with_run (ran t)) ∷ with_prices rest
        (plain (ran t).state rest)

    abbrev Holds : Bool → Type 0
    Holds t = (has_too_many_words a.words ≡ true → reply_number (ran t).reply ≡ 0) × AllSucceed rest (plain (ran t).state rest)

    priced-many : has_too_many_words a.words ≡ true → Holds true → Goal true
    priced-many e f = grind (arith, common_steps, many-refused, ltb-true, none-state)

    priced-few : has_too_many_words a.words ≡ false → Holds false → Goal false
    priced-few e f = grind (arith, common_steps, by-the-masks, does-all, ltb-false)

    priced-as : (t : Bool) → has_too_many_words a.words ≡ t → Holds t → Goal t
    priced-as true e f = priced-many e f
    priced-as false e f = priced-few e f

  pub chain-as : (given : List PricedInput) (s : State) → As s given
  unfolding priced_outputs agreed.call_outputs with_prices
  chain-as [] s f = refl
  chain-as (unpriced (to_run a) ∷ rest) s f =
      let r : RunOutcome = run image s a.words a.masks a.codes in
      ap (λ (l : List PricedOutput). by_unpriced (by_run (output_of r)) ∷ l) (chain-as rest r.state f.1)
  chain-as (unpriced (to_rebind h k) ∷ rest) s f =
      ap (λ (l : List PricedOutput). by_unpriced (by_rebinding (rebind image s h k).reply) ∷ l)
      (chain-as rest (rebind image s h k).state f.1)
  chain-as (to_priced_run list a ∷ rest) s f = priced-as list a rest s (chain-as rest) (has_too_many_words a.words) refl f
