-- The agreement with prices over the functions:
-- calls of translate and State::fresh, then priced runs among calls that run, tick and rebind in any mixture. Each call is known by its
-- contract alone.
use Rattle.std.specs.Prelude.{ℕ, ◌≤◌, ◌≡◌, List, [], ◌∷◌, take}
use Rattle.text.specs.frames.Frame.{contents}
use Rattle.text.specs.frames.Answer.{Answer, reply, success, GivesBuffer}
use Rattle.translator.specs.Entry.{translate}
use Rattle.state.specs.declared.layout.TheConstants.{PLACES}
use Rattle.state.specs.declared.State.{State as Kept}
use Rattle.state.specs.declared.StateReport.{StateReport}
use Rattle.state.specs.State.{fresh_state}
use Rattle.state.specs.Kept.{view, GivesState}
use Rattle.prices.specs.priced_runs.PricedRun.{priced_run}
use Rattle.prices.specs.priced_runs.InPlace.{GivesPricedRunOn}
use Rattle.agreement.specs.Agreement.{RunInput, CallInput, CallOutput}
use Rattle.agreement.specs.Calls.{Call}
use Rattle.priced.specs.Demand.{PricedInput, unpriced, to_priced_run, PricedOutput, by_unpriced, by_priced_run, priced_walk_outputs}

-- what a priced run hands back beside the state
abbrev pub output_of_priced_run : Answer → ℕ → List ℕ → List ℕ → PricedOutput
output_of_priced_run r cents masks codes = by_priced_run (record { reply = reply r; masks = masks; codes = codes }) cents

-- calls in a row, each given the state that the one before handed back
pub data PricedCallsInTurn (image : List ℕ) : Kept → List PricedInput → List PricedOutput → Type 0 where
  none : {s : Kept} → PricedCallsInTurn image s [] []
  unpriced_call : {s after : Kept} {g : CallInput} {d : CallOutput} {rest : List PricedInput} {handed : List PricedOutput}
      → Call image s g d after
      → PricedCallsInTurn image after rest handed → PricedCallsInTurn image s (unpriced g ∷ rest) (by_unpriced d ∷ handed)
  priced_call : {s after : Kept} {list : List ℕ} {a : RunInput} {r : Answer} {cents : ℕ} {masks codes : List ℕ}
      {rest : List PricedInput} {handed : List PricedOutput}
      → GivesPricedRunOn (priced_run image (view s) list a.words a.masks a.codes) a.words s r cents after masks codes
      → PricedCallsInTurn image after rest handed
      → PricedCallsInTurn image s (to_priced_run list a ∷ rest) (output_of_priced_run r cents masks codes ∷ handed)

-- where translate succeeded with n characters, whatever the calls handed back is what the walk of the joined words gives, prices with it
unfoldable pub PricedDelivered : Type 0
PricedDelivered =
    (text before after : List ℕ) (answer : Answer) → GivesBuffer (translate text before) answer after → (n : ℕ) → reply answer ≡ success n
    → (size : ℕ) → 1 ≤ size → size ≤ PLACES → (made : StateReport) → GivesState (fresh_state size) made
    → (given : List PricedInput) (handed : List PricedOutput) → PricedCallsInTurn (take n after) made.state given handed
    → handed ≡ priced_walk_outputs size (contents text) given
