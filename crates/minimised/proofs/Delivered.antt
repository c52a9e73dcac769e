-- Calls in a row on the smaller image that meet their contracts hand back what the agreement says.
use Rattle.std.proofs.Common.{ℕ, ◌≤◌, ◌≡◌, sym, ◌∙◌, ap, List, map, take, arith}
use Rattle.std.proofs.lemmas.Grind.{common_steps}
use Rattle.text.specs.frames.Frame.{contents}
use Rattle.text.specs.frames.Answer.{success}
use Rattle.translator.specs.Entry.{translate}
use Rattle.minimising.specs.Entry.{minimise}
use Rattle.state.specs.State.{State, fresh_state}
use Rattle.state.specs.Kept.{view}
use Rattle.state.proofs.Stored.{state-back}
use Rattle.runs.specs.Run.{run}
use Rattle.rebinding.specs.Rebind.{rebind}
use Rattle.agreement.specs.Agreement.{CallInput, call_outputs, walk_outputs}
use Rattle.agreement.specs.ForC.{call_output_c}
use Rattle.agreement.proofs.Delivered.{calls-chain}
use Rattle.agreement.proofs.ForC.{returned-0}
use Rattle.agreement.proofs.Numbers.{minimise-success}
use Rattle.minimised.specs.Demand.{SmallerAgreement}
use Rattle.minimised.specs.Delivered.{SmallerDelivered, SmallerDeliveredC}
use Rattle.minimised.proofs.Charts.{smaller-theorem}
use Rattle.agreement.proofs.ForC as c

-- the same of a buffer that holds what translate wrote
module _ (text before after : List ℕ) (n : ℕ) (written : after ≡ (translate text before).buffer)
    (done : (translate text before).reply ≡ success n)
    (room : List ℕ) (m : ℕ) (shrunk : (minimise (take n after) room).reply ≡ success m) (size : ℕ) where
  chain-smaller : 1 ≤ size → size ≤ 32 → (given : List CallInput)
      → call_outputs run rebind (take m (minimise (take n after) room).buffer) (fresh_state size).state
      given ≡ walk_outputs size (contents text) given
  unfolding SmallerAgreement
  chain-smaller low high given = grind (arith, common_steps, smaller-theorem)

pub smaller-delivered : SmallerDelivered
unfolding SmallerDelivered
smaller-delivered text before after answer w n e room smaller told x m f size low high made z given handed cs =
    grind (arith, common_steps, calls-chain, state-back, chain-smaller)

pub smaller-delivered-c : SmallerDeliveredC
unfolding SmallerDeliveredC
smaller-delivered-c text before after at n w room smaller at' m x size low high returned at'' made s z given handed cs =
    c.calls-chain (take m smaller) s given handed cs
    ∙ ap (λ (x : State). map call_output_c (call_outputs run rebind (take m smaller) x given))
    (ap view z.state ∙ state-back (fresh_state size).state)
    ∙ ap (λ (b : List ℕ). map call_output_c (call_outputs run rebind (take m b) (fresh_state size).state given)) x.written
    ∙ ap (map call_output_c) (chain-smaller text before after n w.written (returned-0 text before after at n w) room m
    (minimise-success (take n after) room (sym x.told.number-is) ∙ ap success (sym x.told.count-is)) size low high given)

pub ruleset joined_images_tick_as_walks = (smaller-theorem, smaller-delivered, smaller-delivered-c)
