-- The agreement with no rebinding in the list, over the functions and for C: of any mixture of runs, ticks and live calls, and of runs on
-- the image's text alone.
use Rattle.std.specs.Prelude.{ℕ, ◌≤◌, ◌≡◌, List, [], ◌∷◌, map, take}
use Rattle.text.specs.frames.Frame.{contents}
use Rattle.text.specs.frames.Answer.{Answer, reply, success, GivesBuffer}
use Rattle.translator.specs.Entry.{translate}
use Rattle.state.specs.declared.layout.TheConstants.{PLACES}
use Rattle.state.specs.declared.State.{State as Kept}
use Rattle.state.specs.declared.StateReport.{StateReport}
use Rattle.state.specs.State.{fresh_state}
use Rattle.state.specs.Kept.{view, GivesState}
use Rattle.runs.specs.Run.{run}
use Rattle.runs.specs.InPlace.{GivesRunOn}
use Rattle.fairleadow.specs.AnswersForC.{GivesBufferC}
use Rattle.fairleadow.specs.RunsForC.{GivesStateC, run_for, GivesRunC}
use Rattle.agreement.specs.Agreement.{RunInput, to_run, RunOutput, CallOutput, by_run}
use Rattle.agreement.specs.Unswapped.{walk_runs}
use Rattle.agreement.specs.Calls.{CallsInTurn}
use Rattle.agreement.specs.ForC.{RunOutputC, run_output_c, CallOutputC, by_run_c, CallsInTurnC}

-- ---- over the functions
-- any mixture of calls that run and tick, on the image's text or on a table of it
unfoldable pub DeliveredAlone : Type 0
DeliveredAlone =
    (text before after : List ℕ) (answer : Answer) → GivesBuffer (translate text before) answer after → (n : ℕ) → reply answer ≡ success n
    → (size : ℕ) → 1 ≤ size → size ≤ PLACES → (made : StateReport) → GivesState (fresh_state size) made
    → (asked : List RunInput) (handed : List CallOutput) → CallsInTurn (take n after) made.state (map to_run asked) handed
    → handed ≡ map by_run (walk_runs size (contents text) asked)

-- calls of run in a row, each given the state that the one before returned
pub data RunCalls (image : List ℕ) : Kept → List RunInput → List RunOutput → Type 0 where
  none : {s : Kept} → RunCalls image s [] []
  more : {s : Kept} {a : RunInput} {rest : List RunInput} {tolds : List RunOutput} (r : Answer) (after : Kept) (masks codes : List ℕ)
      → GivesRunOn (run image (view s) a.words a.masks a.codes) s r after masks codes → RunCalls image after rest tolds
      → RunCalls image s (a ∷ rest) (record { reply = reply r; masks = masks; codes = codes } ∷ tolds)

unfoldable pub RunsDelivered : Type 0
RunsDelivered =
    (text before after : List ℕ) (answer : Answer) → GivesBuffer (translate text before) answer after → (n : ℕ) → reply answer ≡ success n
    → (size : ℕ) → 1 ≤ size → size ≤ PLACES → (made : StateReport) → GivesState (fresh_state size) made
    → (asked : List RunInput) (tolds : List RunOutput) → RunCalls (take n after) made.state asked tolds
    → tolds ≡ walk_runs size (contents text) asked

-- ---- for C
unfoldable pub DeliveredAloneC : Type 0
DeliveredAloneC =
    (text before after : List ℕ) (at n : ℕ) → GivesBufferC (translate text before) 0 at n after
    → (size : ℕ) → 1 ≤ size → size ≤ PLACES → (returned at made : ℕ) (s : Kept)
    → GivesStateC (fresh_state size) returned at made s
    → (asked : List RunInput) (handed : List CallOutputC) → CallsInTurnC (take n after) s (map to_run asked) handed
    → handed ≡ map by_run_c (map run_output_c (walk_runs size (contents text) asked))

pub data RunCallsC (image : List ℕ) : Kept → List RunInput → List RunOutputC → Type 0 where
  none : {s : Kept} → RunCallsC image s [] []
  more : {s : Kept} {a : RunInput} {rest : List RunInput} {t : RunOutputC} {tolds : List RunOutputC} (after : Kept)
      → GivesRunC (run_for image s a.words a.masks a.codes) s t.number t.index t.count after t.masks t.codes
      → RunCallsC image after rest tolds
      → RunCallsC image s (a ∷ rest) (t ∷ tolds)

unfoldable pub RunsDeliveredC : Type 0
RunsDeliveredC =
    (text before after : List ℕ) (at n : ℕ) → GivesBufferC (translate text before) 0 at n after
    → (size : ℕ) → 1 ≤ size → size ≤ PLACES → (returned at made : ℕ) (s : Kept)
    → GivesStateC (fresh_state size) returned at made s
    → (asked : List RunInput) (tolds : List RunOutputC) → RunCallsC (take n after) s asked tolds
    → tolds ≡ map run_output_c (walk_runs size (contents text) asked)
