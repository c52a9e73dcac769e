-- Calls in a row that meet their contracts, priced runs among them, hand back what the agreement with prices says.
use Rattle.std.proofs.Common.{ℕ, ◌≡◌, refl, sym, ◌∙◌, ap, ap₂, List, [], ◌∷◌, arith}
use Rattle.std.proofs.lemmas.Grind.{common_steps}
use Rattle.state.specs.declared.State.{State as Kept}
use Rattle.state.specs.State.{State}
use Rattle.state.specs.Kept.{view}
use Rattle.state.proofs.Stored.{state-back}
use Rattle.runs.specs.Run.{run}
use Rattle.rebinding.specs.Rebind.{rebind}
use Rattle.prices.specs.priced_runs.PricedRun.{priced_run}
use Rattle.prices.proofs.priced_runs.EntryCases.{priced-held}
use Rattle.agreement.specs.Agreement.{CallInput, to_run, to_rebind}
use Rattle.agreement.proofs.OneCall.{handed_output, handed_state, Like, call-like}
use Rattle.priced.specs.Demand.{PricedInput, unpriced, to_priced_run, PricedOutput, by_unpriced, by_priced_run, priced_outputs}
use Rattle.priced.specs.Demand.{PricedAgreement}
use Rattle.priced.specs.Delivered.{PricedCallsInTurn, none, unpriced_call, priced_call, PricedDelivered}
use Rattle.priced.proofs.Charts.{priced-theorem}

abbrev pub made_outputs : List ℕ → State → List PricedInput → List PricedOutput
made_outputs image s given = priced_outputs priced_run run rebind image s given

pub chain-asked : (image : List ℕ) (s : State) (g : CallInput) (rest : List PricedInput)
    → made_outputs image s (unpriced g ∷ rest) ≡ by_unpriced (handed_output image s g) ∷ made_outputs image (handed_state image s g) rest
unfolding priced_outputs
chain-asked image s (to_run a) rest = refl
chain-asked image s (to_rebind h k) rest = refl

pub calls-chain : (image : List ℕ) {s : Kept} {given : List PricedInput} {handed : List PricedOutput} → PricedCallsInTurn image s given handed
    → handed ≡ made_outputs image (view s) given
unfolding priced_outputs
calls-chain image none = refl
calls-chain image (unpriced_call {s = s} {after = after} {g = g} {d = d} {rest = rest} c cs) =
    let like : Like image s g d after = call-like image s c in
    ap₂ (λ (x : PricedOutput) (l : List PricedOutput). x ∷ l) (ap by_unpriced like.handed-is)
    (calls-chain image cs ∙ ap (λ (z : State). made_outputs image z rest) like.state-is)
    ∙ sym (chain-asked image (view s) g rest)
calls-chain image (priced_call {s = s} {list = list} {a = a} {rest = rest} c cs) =
    ap₂ (λ (x : PricedOutput) (l : List PricedOutput). x ∷ l)
    (λ j. by_priced_run (record { reply = c.answered j; masks = c.masks j; codes = c.codes j }) (c.price j))
    (calls-chain image cs
    ∙ ap (λ (z : State). made_outputs image z rest) (ap view c.state ∙ priced-held image s list a.words a.masks a.codes))

pub priced-delivered : PricedDelivered
unfolding PricedDelivered PricedAgreement
priced-delivered text before after answer c n e size low high m x given handed cs = grind (arith, common_steps, state-back, priced-theorem, calls-chain)
