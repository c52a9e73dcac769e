-- Calls from C in a row that meet their contracts, priced runs among them, hand back what the agreement with prices says.
use Rattle.std.proofs.Common.{ℕ, ◌≡◌, refl, sym, ◌∙◌, ap, ap₂, List, [], ◌∷◌, map, take}
use Rattle.state.specs.State.{State, fresh_state}
use Rattle.state.specs.declared.State.{State as Kept}
use Rattle.state.specs.Kept.{view}
use Rattle.state.proofs.Stored.{state-back}
use Rattle.prices.proofs.priced_runs.EntryCases.{priced-held}
use Rattle.agreement.proofs.ForC.{returned-0}
use Rattle.agreement.proofs.OneCallC.{LikeC, call-like}
use Rattle.priced.specs.Demand.{PricedInput, unpriced, to_priced_run, priced_outputs, PricedAgreement}
use Rattle.priced.specs.ForC.{PricedOutputC, by_unpriced_c, by_priced_run_c, priced_output_c, PricedCallsInTurnC, none, unpriced_call}
use Rattle.priced.specs.ForC.{priced_call, PricedDeliveredC}
use Rattle.priced.proofs.Charts.{priced-theorem}
use Rattle.priced.proofs.Delivered.{made_outputs, chain-asked, priced-delivered}

-- each call leaves the state that the same call of the definitions hands back
pub calls-chain : (image : List ℕ) {s : Kept} {given : List PricedInput} {handed : List PricedOutputC} → PricedCallsInTurnC image s given handed
    → handed ≡ map priced_output_c (made_outputs image (view s) given)
unfolding priced_outputs
calls-chain image none = refl
calls-chain image (unpriced_call {s = s} {after = after} {g = g} {d = d} {rest = rest} c cs) =
    let like : LikeC image s g d after = call-like image s c in
    ap₂ (λ (x : PricedOutputC) (l : List PricedOutputC). x ∷ l) (ap by_unpriced_c like.handed-is)
    (calls-chain image cs ∙ ap (λ (z : State). map priced_output_c (made_outputs image z rest)) like.state-is)
    ∙ sym (ap (map priced_output_c) (chain-asked image (view s) g rest))
calls-chain image (priced_call {s = s} {list = list} {a = a} {rest = rest} c cs) =
    ap₂ (λ (x : PricedOutputC) (l : List PricedOutputC). x ∷ l)
    (λ j. by_priced_run_c (record {
      number = c.told.number-is j;
      index = c.told.index-is j;
      count = c.told.count-is j;
      masks = c.masks j;
      codes = c.codes j;
    }) (c.price j))
    (calls-chain image cs
    ∙ ap (λ (z : State). map priced_output_c (made_outputs image z rest))
    (ap view c.state ∙ priced-held image s list a.words a.masks a.codes))

pub priced-delivered-c : PricedDeliveredC
unfolding PricedDeliveredC PricedAgreement
priced-delivered-c text before after at n c size low high returned at' m s x given handed cs =
    calls-chain (take n after) cs
    ∙ ap (λ (z : State). map priced_output_c (made_outputs (take n after) z given)) (ap view x.state ∙ state-back (fresh_state size).state)
    ∙ ap (λ (b : List ℕ). map priced_output_c (made_outputs (take n b) (fresh_state size).state given)) c.written
    ∙ ap (map priced_output_c) (priced-theorem text before n (returned-0 text before after at n c) size low high given)

pub ruleset priced_runs_cost_as_walks = (priced-theorem, priced-delivered, priced-delivered-c)
