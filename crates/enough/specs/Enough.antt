-- What the number of places promises:
-- with that many or more, no call of any list from a fresh state gets 17 or makes a drop, as long as every number is served by its own
-- scheme. Said over the functions, and for a caller from C; each call is known by its contract alone.
use Rattle.std.specs.Prelude.{ℕ, ◌≤◌, ◌≡◌, List, map, length, take, if◌then◌else◌}
use Rattle.std.specs.List.{AllByRecursion}
use Rattle.bindings.specs.Binding.{own_binding}
use Rattle.text.specs.declared.frames.codes.TheConstants.{DROP_CODE}
use Rattle.text.specs.declared.frames.refusals.TheConstants.{NO_ROOM}
use Rattle.text.specs.frames.Frame.{contents}
use Rattle.text.specs.frames.Answer.{Answer, Reply, success, refusal, reply, reply_number, reply_count, GivesBuffer}
use Rattle.charts.specs.Chart.{Chart}
use Rattle.walk.specs.Walk.{Signal}
use Rattle.translator.specs.Entry.{translate}
use Rattle.places.specs.Entry.{places_needed}
use Rattle.state.specs.declared.layout.TheConstants.{PLACES}
use Rattle.state.specs.declared.State.{State as Kept}
use Rattle.state.specs.declared.StateReport.{StateReport}
use Rattle.state.specs.State.{fresh_state}
use Rattle.state.specs.Kept.{GivesState}
use Rattle.fairleadow.specs.AnswersForC.{GivesReplyC}
use Rattle.fairleadow.specs.AnswersForC.{GivesBufferC}
use Rattle.fairleadow.specs.RunsForC.{GivesStateC}
use Rattle.agreement.specs.Agreement.{CallInput, to_run, to_rebind, CallOutput, by_run, by_rebinding, is_short, joined_words, reply_to}
use Rattle.agreement.specs.Calls.{CallsInTurn}
use Rattle.agreement.specs.ForC as for-c

-- every word of the list is told that each number is served by its own scheme
abbrev pub OwnServed : Chart → List CallInput → Type 0
OwnServed c given = AllByRecursion (λ (w : Signal). w.binding ≡ own_binding) (joined_words c own_binding given)

-- a run makes a tick for every word, or gets 16 for want of room; a rebinding is made, or gets 22
abbrev pub all_made : Chart → CallInput → Reply
all_made c (to_run a) = if is_short a then refusal NO_ROOM 0 0 else success (length a.words)
all_made c (to_rebind h k) = reply_to c h k

-- no code of a drop among those that were written
abbrev pub HasNoDrop : ℕ → List ℕ → Type 0
HasNoDrop n codes = AllByRecursion (λ (code : ℕ). code ≡ DROP_CODE → ⊥) (take n codes)

abbrev pub reply_of : CallOutput → Reply
reply_of (by_run t) = t.reply
reply_of (by_rebinding r) = r

abbrev pub IsDropless : CallOutput → Type 0
IsDropless (by_run t) = HasNoDrop (reply_count t.reply) t.codes
IsDropless (by_rebinding r) = Unit {0}

pub record AllMade (c : Chart) (given : List CallInput) (handed : List CallOutput) : Type 0 where
  pub replies : map reply_of handed ≡ map (all_made c) given
  pub drops : AllByRecursion IsDropless handed

-- places_needed answered success with k
unfoldable pub Enough : Type 0
Enough =
    (text before after : List ℕ) (answer : Answer) → GivesBuffer (translate text before) answer after → (n : ℕ) → reply answer ≡ success n
    → (told : Answer) → reply told ≡ places_needed text → (k : ℕ) → reply told ≡ success k
    → (size : ℕ) → k ≤ size → size ≤ PLACES → (made : StateReport) → GivesState (fresh_state size) made
    → (given : List CallInput) → OwnServed (contents text) given
    → (handed : List CallOutput) → CallsInTurn (take n after) made.state given handed → AllMade (contents text) given handed

-- ---- for C
abbrev pub number_of_c : for-c.CallOutputC → ℕ
number_of_c (for-c.by_run_c t) = t.number
number_of_c (for-c.by_rebinding_c n i k) = n

abbrev pub count_of_c : for-c.CallOutputC → ℕ
count_of_c (for-c.by_run_c t) = t.count
count_of_c (for-c.by_rebinding_c n i k) = k

abbrev pub IsDroplessC : for-c.CallOutputC → Type 0
IsDroplessC (for-c.by_run_c t) = HasNoDrop t.count t.codes
IsDroplessC (for-c.by_rebinding_c n i k) = Unit {0}

pub record AllMadeC (c : Chart) (given : List CallInput) (handed : List for-c.CallOutputC) : Type 0 where
  pub numbers : map number_of_c handed ≡ map (λ g. reply_number (all_made c g)) given
  pub counts : map count_of_c handed ≡ map (λ g. reply_count (all_made c g)) given
  pub drops : AllByRecursion IsDroplessC handed

-- fairleadow_places returned 0 with count k
unfoldable pub EnoughC : Type 0
EnoughC =
    (text before after : List ℕ) (at n : ℕ) → GivesBufferC (translate text before) 0 at n after
    → (at k : ℕ) → GivesReplyC (places_needed text) 0 at k
    → (size : ℕ) → k ≤ size → size ≤ PLACES → (returned at made : ℕ) (s : Kept)
    → GivesStateC (fresh_state size) returned at made s
    → (given : List CallInput) → OwnServed (contents text) given
    → (handed : List for-c.CallOutputC) → for-c.CallsInTurnC (take n after) s given handed → AllMadeC (contents text) given handed
