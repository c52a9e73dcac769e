-- Calls in a row that meet their contracts hand back what the agreement says.
use Rattle.std.proofs.Common.{ℕ, ◌≡◌, refl, sym, ◌∙◌, ap, ap₂, List, [], ◌∷◌, take}
use Rattle.state.specs.declared.State.{State as Kept}
use Rattle.state.specs.State.{State, fresh_state}
use Rattle.state.specs.Kept.{view}
use Rattle.state.proofs.Stored.{state-back}
use Rattle.runs.specs.Run.{run}
use Rattle.rebinding.specs.Rebind.{rebind}
use Rattle.agreement.specs.Agreement.{CallInput, CallOutput, call_outputs, Agreement}
use Rattle.agreement.specs.Calls.{CallsInTurn, none, more, Delivered}
use Rattle.agreement.proofs.Demand.{theorem}
use Rattle.agreement.proofs.OneCall.{Like, call-like, chain-more}

pub calls-chain : (image : List ℕ) (s : Kept) (given : List CallInput) (handed : List CallOutput) → CallsInTurn image s given handed
    → handed ≡ call_outputs run rebind image (view s) given
unfolding call_outputs
calls-chain image s [] [] none = refl
calls-chain image s [] (d ∷ handed) x = elim x [ ]
calls-chain image s (g ∷ rest) [] x = elim x [ ]
calls-chain image s (g ∷ rest) (d ∷ handed) (more {after = after} c cs) =
    let like : Like image s g d after = call-like image s c in
    ap₂ (λ (x : CallOutput) (l : List CallOutput). x ∷ l) like.handed-is
    (calls-chain image after rest handed cs ∙ ap (λ (z : State). call_outputs run rebind image z rest) like.state-is)
    ∙ sym (chain-more image (view s) g rest)

pub delivered : Delivered
unfolding Delivered Agreement
delivered text before after answer c n e size low high made m given handed cs =
    calls-chain (take n after) made.state given handed cs
    ∙ ap (λ (z : State). call_outputs run rebind (take n after) z given) (ap view m.state ∙ state-back (fresh_state size).state)
    ∙ ap (λ (b : List ℕ). call_outputs run rebind (take n b) (fresh_state size).state given) c.written
    ∙ theorem text before n (sym c.answered ∙ e) size low high given
