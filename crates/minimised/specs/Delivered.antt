-- The agreement for the smaller image over the functions: calls of translate, of minimise on what it wrote and of State::fresh, then calls
-- that run, tick and rebind in any mixture on the smaller image, or on a table that prepare made of it. The same for C.
use Rattle.std.specs.Prelude.{ℕ, ◌≤◌, ◌≡◌, List, map, take}
use Rattle.text.specs.frames.Frame.{contents}
use Rattle.text.specs.frames.Answer.{Answer, reply, success, GivesBuffer}
use Rattle.translator.specs.Entry.{translate}
use Rattle.state.specs.declared.layout.TheConstants.{PLACES}
use Rattle.minimising.specs.Entry.{minimise}
use Rattle.state.specs.declared.State.{State as Kept}
use Rattle.state.specs.declared.StateReport.{StateReport}
use Rattle.state.specs.State.{fresh_state}
use Rattle.state.specs.Kept.{GivesState}
use Rattle.fairleadow.specs.AnswersForC.{GivesBufferC}
use Rattle.fairleadow.specs.RunsForC.{GivesStateC}
use Rattle.agreement.specs.Agreement.{CallInput, CallOutput, walk_outputs}
use Rattle.agreement.specs.Calls.{CallsInTurn}
use Rattle.agreement.specs.ForC.{CallOutputC, call_output_c, CallsInTurnC}

unfoldable pub SmallerDelivered : Type 0
SmallerDelivered =
    (text before after : List ℕ) (answer : Answer) → GivesBuffer (translate text before) answer after → (n : ℕ) → reply answer ≡ success n
    → (room smaller : List ℕ) (told : Answer) → GivesBuffer (minimise (take n after) room) told smaller → (m : ℕ) → reply told ≡ success m
    → (size : ℕ) → 1 ≤ size → size ≤ PLACES → (made : StateReport) → GivesState (fresh_state size) made
    → (given : List CallInput) (handed : List CallOutput) → CallsInTurn (take m smaller) made.state given handed
    → handed ≡ walk_outputs size (contents text) given

unfoldable pub SmallerDeliveredC : Type 0
SmallerDeliveredC =
    (text before after : List ℕ) (at n : ℕ) → GivesBufferC (translate text before) 0 at n after
    → (room smaller : List ℕ) (at m : ℕ) → GivesBufferC (minimise (take n after) room) 0 at m smaller
    → (size : ℕ) → 1 ≤ size → size ≤ PLACES → (returned at made : ℕ) (s : Kept)
    → GivesStateC (fresh_state size) returned at made s
    → (given : List CallInput) (handed : List CallOutputC) → CallsInTurnC (take m smaller) s given handed
    → handed ≡ map call_output_c (walk_outputs size (contents text) given)
