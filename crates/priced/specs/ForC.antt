-- The agreement with prices for a caller from C:
-- priced runs among calls that run, tick and rebind in any mixture, each given the state that the call before it left, and known by its
-- contract alone.
use Rattle.std.specs.Prelude.{ℕ, ◌≤◌, ◌≡◌, List, [], ◌∷◌, map, take}
use Rattle.text.specs.frames.Frame.{contents}
use Rattle.translator.specs.Entry.{translate}
use Rattle.state.specs.declared.layout.TheConstants.{PLACES}
use Rattle.state.specs.declared.State.{State as Kept}
use Rattle.state.specs.State.{fresh_state}
use Rattle.fairleadow.specs.AnswersForC.{GivesBufferC}
use Rattle.fairleadow.specs.RunsForC.{GivesStateC}
use Rattle.fairleadow.specs.PricesForC.{priced_run_for, GivesPricedRunC}
use Rattle.agreement.specs.Agreement.{RunInput, CallInput}
use Rattle.agreement.specs.ForC.{RunOutputC, run_output_c, CallOutputC, call_output_c, CallC}
use Rattle.priced.specs.Demand.{PricedInput, unpriced, to_priced_run, PricedOutput, priced_walk_outputs}
use Rattle.priced.specs.Demand as demand

-- what a call hands back to C beside the state
pub data PricedOutputC : Type 0 where
  by_unpriced_c : CallOutputC → PricedOutputC
  by_priced_run_c : RunOutputC → ℕ → PricedOutputC

abbrev pub priced_output_c : PricedOutput → PricedOutputC
priced_output_c (demand.by_unpriced d) = by_unpriced_c (call_output_c d)
priced_output_c (demand.by_priced_run t cents) = by_priced_run_c (run_output_c t) cents

-- calls in a row
pub data PricedCallsInTurnC (image : List ℕ) : Kept → List PricedInput → List PricedOutputC → Type 0 where
  none : {s : Kept} → PricedCallsInTurnC image s [] []
  unpriced_call : {s after : Kept} {g : CallInput} {d : CallOutputC} {rest : List PricedInput} {handed : List PricedOutputC}
      → CallC image s g d after
      → PricedCallsInTurnC image after rest handed → PricedCallsInTurnC image s (unpriced g ∷ rest) (by_unpriced_c d ∷ handed)
  priced_call : {s after : Kept} {list : List ℕ} {a : RunInput} {t : RunOutputC} {cents : ℕ}
      {rest : List PricedInput} {handed : List PricedOutputC}
      → GivesPricedRunC (priced_run_for image s list a.words a.masks a.codes) a.words s
      t.number t.index t.count after t.masks t.codes cents
      → PricedCallsInTurnC image after rest handed
      → PricedCallsInTurnC image s (to_priced_run list a ∷ rest) (by_priced_run_c t cents ∷ handed)

-- where fairleadow_translate returned 0 with n characters, whatever the calls handed back is what the walk of the joined words gives
unfoldable pub PricedDeliveredC : Type 0
PricedDeliveredC =
    (text before after : List ℕ) (at n : ℕ) → GivesBufferC (translate text before) 0 at n after
    → (size : ℕ) → 1 ≤ size → size ≤ PLACES → (returned at made : ℕ) (s : Kept)
    → GivesStateC (fresh_state size) returned at made s
    → (given : List PricedInput) (handed : List PricedOutputC) → PricedCallsInTurnC (take n after) s given handed
    → handed ≡ map priced_output_c (priced_walk_outputs size (contents text) given)
