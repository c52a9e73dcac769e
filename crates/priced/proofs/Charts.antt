-- The agreement with prices, and of one priced run from a fresh state.
use Rattle.std.proofs.Common.{ℕ, Bool, true, false, ◌≡◌, refl, sym, ◌∙◌, ap, subst, List, [], ◌∷◌, map, take, arith}
use Rattle.std.proofs.lemmas.Grind.{common_steps}
use Rattle.bindings.specs.Binding.{own_binding}
use Rattle.text.specs.frames.Frame.{contents}
use Rattle.text.specs.frames.Answer.{reply_count}
use Rattle.charts.specs.Chart.{Chart}
use Rattle.walk.specs.Walk.{Signal, signals, Tick, walk}
use Rattle.translator.specs.Entry.{translate}
use Rattle.state.specs.State.{State, fresh_state}
use Rattle.runs.specs.Run.{run}
use Rattle.rebinding.specs.Rebind.{rebind}
use Rattle.prices.specs.Prices.{price}
use Rattle.prices.specs.priced_runs.PricedRun.{has_too_many_words, PricedOutcome, priced_run}
use Rattle.prices.proofs.priced_runs.Pricing.{no-price}
use Rattle.agreement.specs.Agreement.{RunInput, RunOutput, output_of, CallInput, is_short, bound, expected_output, Agreement}
use Rattle.agreement.proofs.Bounds.{bound-le}
use Rattle.agreement.proofs.Demand.{theorem}
use Rattle.priced.specs.Demand.{PricedInput, to_priced_run, PricedOutput, by_priced_run, priced_outputs, joined_priced_words}
use Rattle.priced.specs.Demand.{priced_walk_outputs, expected_priced_outputs, PricedAgreement}
use Rattle.priced.specs.FreshRun.{PricedByTheWalk}
use Rattle.priced.proofs.AsRuns.{as_run, with_prices, AllSucceed, joined-as, expected-as, expected-fine, expected-count, all-many}
use Rattle.priced.proofs.AsRuns.{all-refused, all-priced}
use Rattle.priced.proofs.Chain.{chain-as}
use Rattle.agreement.specs.Agreement as agreed

pub priced-theorem : PricedAgreement translate fresh_state priced_run run rebind
unfolding PricedAgreement Agreement
priced-theorem text out n done size low high given =
    let c : Chart = contents text in
    let s : State = (fresh_state size).state in
    let image : List ℕ = take n (translate text out).buffer in
    let plain : List CallInput = map as_run given in
    let ts : List Tick = walk size c (agreed.joined_words c own_binding plain) in
    let b : ℕ = bound size ts in
    let e : agreed.call_outputs run rebind image s plain ≡ agreed.walk_outputs size c plain = theorem text out n done size low high plain in
    chain-as image given s (subst (AllSucceed given) (sym e) (expected-fine c b ts (bound-le size ts) given 0))
    ∙ ap (with_prices given) e
    ∙ sym (expected-as c b ts (bound-le size ts) given 0)
    ∙ sym (ap (λ (js : List Signal). let us = walk size c js in expected_priced_outputs c (bound size us) us 0 given)
    (joined-as c given own_binding))

-- ---- one priced run
module _ (size : ℕ) (c : Chart) (list : List ℕ) (a : RunInput) (r : PricedOutcome) where
  abbrev only : List PricedInput
  only = to_priced_run list a ∷ []

  abbrev handed : List PricedOutput
  handed = by_priced_run (output_of r.run) r.price ∷ []

  abbrev masks_of : List Tick → List ℕ
  masks_of = map (λ (t : Tick). t.mask)

  abbrev Priced : Type 0
  Priced = r.price ≡ price list (masks_of (take (reply_count r.run.reply) (walk size c (signals own_binding a.words))))

  -- refused before its first tick
  none-priced : (t : RunOutput) → reply_count t.reply ≡ 0 → handed ≡ by_priced_run t 0 ∷ [] → Priced
  none-priced t z e = grind (arith, common_steps, no-price)

  all-words : has_too_many_words a.words ≡ false → is_short a ≡ false → joined_priced_words c own_binding only ≡ signals own_binding a.words
  unfolding joined_priced_words
  all-words e f = grind (arith, common_steps)

  ticks-priced : has_too_many_words a.words ≡ false → is_short a ≡ false → handed ≡ priced_walk_outputs size c only → Priced
  unfolding expected_priced_outputs
  ticks-priced e f h = grind (arith, common_steps, expected-count, bound-le, all-priced, all-words)

  one-priced : handed ≡ priced_walk_outputs size c only → Priced
  unfolding expected_priced_outputs
  one-priced h = go (has_too_many_words a.words) (is_short a) refl refl
    where
      ts : List Tick
      ts = walk size c (joined_priced_words c own_binding only)

      go : (t u : Bool) → has_too_many_words a.words ≡ t → is_short a ≡ u → Priced
      go true u e f = none-priced _ refl (h ∙ all-many c (bound size ts) ts (bound-le size ts) 0 list a [] e)
      go false true e f = none-priced _ refl (h ∙ all-refused c (bound size ts) ts (bound-le size ts) 0 list a [] e f)
      go false false e f = ticks-priced e f h

-- of a translated chart, from a fresh state:
-- the price of the walk's ticks, as many as the answer counts, with no premise about room or length
pub by-the-walk : PricedByTheWalk
unfolding priced_outputs PricedAgreement
by-the-walk text out n done size low high list words masks codes =
    let a : RunInput = record { words = words; masks = masks; codes = codes } in
    one-priced size (contents text) list a (priced_run (take n (translate text out).buffer) (fresh_state size).state list words masks codes)
    (priced-theorem text out n done size low high (to_priced_run list a ∷ []))

pub ruleset fresh_run_costs_as_walk = by-the-walk
