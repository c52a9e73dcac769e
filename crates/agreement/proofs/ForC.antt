-- Calls from C in a row that meet their contracts hand back what the agreement says.
use Rattle.std.proofs.Common.{ℕ, ◌≡◌, refl, sym, ◌∙◌, ap, ap₂, List, [], ◌∷◌, map, take, arith}
use Rattle.text.specs.frames.Answer.{success}
use Rattle.translator.specs.Entry.{translate}
use Rattle.state.specs.State.{State, fresh_state}
use Rattle.state.specs.declared.State.{State as Kept}
use Rattle.state.specs.Kept.{view}
use Rattle.runs.specs.Run.{run}
use Rattle.rebinding.specs.Rebind.{rebind}
use Rattle.fairleadow.specs.AnswersForC.{GivesBufferC}
use Rattle.state.proofs.Stored.{state-back}
use Rattle.agreement.specs.Agreement.{CallInput, call_outputs, Agreement}
use Rattle.agreement.specs.ForC.{CallOutputC, call_output_c, CallsInTurnC, none, more, DeliveredC}
use Rattle.agreement.proofs.Numbers.{translate-success}
use Rattle.agreement.proofs.Demand.{theorem}
use Rattle.agreement.proofs.OneCall.{chain-more}
use Rattle.agreement.proofs.OneCallC.{LikeC, call-like}

-- a call of fairleadow_translate that returned 0 succeeded with the count that it wrote
pub returned-0 : (text before after : List ℕ) (at n : ℕ) → GivesBufferC (translate text before) 0 at n after
    → (translate text before).reply ≡ success n
returned-0 text before after at n c = grind (arith, translate-success)

-- each call leaves the state that the same call of the definitions hands back
pub calls-chain : (image : List ℕ) (s : Kept) (given : List CallInput) (handed : List CallOutputC) → CallsInTurnC image s given handed
    → handed ≡ map call_output_c (call_outputs run rebind image (view s) given)
unfolding call_outputs
calls-chain image s [] [] none = refl
calls-chain image s [] (d ∷ handed) x = elim x [ ]
calls-chain image s (g ∷ rest) [] x = elim x [ ]
calls-chain image s (g ∷ rest) (d ∷ handed) (more {after = after} c cs) =
    let like : LikeC image s g d after = call-like image s c in
    ap₂ (λ (x : CallOutputC) (l : List CallOutputC). x ∷ l) like.handed-is
    (calls-chain image after rest handed cs ∙ ap (λ (z : State). map call_output_c (call_outputs run rebind image z rest)) like.state-is)
    ∙ sym (ap (map call_output_c) (chain-more image (view s) g rest))

pub delivered-c : DeliveredC
unfolding DeliveredC Agreement
delivered-c text before after at n c size low high returned at' made s m given handed cs =
    calls-chain (take n after) s given handed cs
    ∙ ap (λ (z : State). map call_output_c (call_outputs run rebind (take n after) z given))
    (ap view m.state ∙ state-back (fresh_state size).state)
    ∙ ap (λ (b : List ℕ). map call_output_c (call_outputs run rebind (take n b) (fresh_state size).state given)) c.written
    ∙ ap (map call_output_c) (theorem text before n (returned-0 text before after at n c) size low high given)
