-- The agreement over the functions: calls of translate and State::fresh, then any mixture of calls that run, tick and rebind, on the
-- image's text or on a table that prepare made of it. Each call is known by its contract alone, which is the record that the function's
-- `ensures` cites.
use Rattle.std.specs.Prelude.{ℕ, ◌≤◌, ◌≡◌, List, [], ◌∷◌, take}
use Rattle.text.specs.frames.Frame.{contents}
use Rattle.text.specs.frames.Answer.{Answer, reply, success, GivesBuffer}
use Rattle.translator.specs.Entry.{translate}
use Rattle.tables.specs.Prepare.{prepare}
use Rattle.state.specs.declared.layout.TheConstants.{PLACES}
use Rattle.state.specs.declared.State.{State as Kept}
use Rattle.state.specs.declared.StateReport.{StateReport}
use Rattle.state.specs.State.{fresh_state}
use Rattle.state.specs.Kept.{view, GivesState}
use Rattle.runs.specs.Run.{run}
use Rattle.runs.specs.TickOutcome.{image_tick, TickAnswer, tick_reply, answered_mask, answered_code}
use Rattle.runs.specs.InPlace.{GivesRunOn, GivesTickOn}
use Rattle.rebinding.specs.Rebind.{rebind, live_rebind, GivesRebindingOn}
use Rattle.runs.specs.machine.Live.{live_run, live_tick}
use Rattle.agreement.specs.Agreement.{RunInput, CallInput, to_run, to_rebind, CallOutput, by_run, by_rebinding, walk_outputs}

-- a table of the image, as live calls are handed it: prepare succeeded with n bytes, and these are the first n or more of its buffer
pub data TableOf (image : List ℕ) : List ℕ → Type 0 where
  prepared : (before after : List ℕ) (answer : Answer) → GivesBuffer (prepare image before) answer after
      → (n : ℕ) → reply answer ≡ success n
      → (k : ℕ) → n ≤ k → TableOf image (take k after)

-- what a run and a rebinding hand back beside the state
abbrev pub output_of_run : Answer → List ℕ → List ℕ → CallOutput
output_of_run r masks codes = by_run (record { reply = reply r; masks = masks; codes = codes })

abbrev pub output_of_rebinding : Answer → CallOutput
output_of_rebinding r = by_rebinding (reply r)

-- a tick counts as a run of one word, with one place for its mask and one for its code, which hold m and k before it; the answer of a
-- refused one stands for 0 and 0, as if the places had held these
abbrev pub one_word : ℕ → ℕ → ℕ → CallInput
one_word w m k = to_run (record { words = w ∷ []; masks = m ∷ []; codes = k ∷ [] })

abbrev pub output_of_tick : TickAnswer → CallOutput
output_of_tick a = by_run (record { reply = tick_reply a; masks = answered_mask a ∷ []; codes = answered_code a ∷ [] })

-- one call that is handed the image, or a table of it, and the state s: what else it is given, what it hands back, and the state after it
pub data Call (image : List ℕ) (s : Kept) : CallInput → CallOutput → Kept → Type 0 where
  run_call : {a : RunInput} {r : Answer} {after : Kept} {masks codes : List ℕ}
      → GivesRunOn (run image (view s) a.words a.masks a.codes) s r after masks codes
      → Call image s (to_run a) (output_of_run r masks codes) after
  run_call_live : {table : List ℕ} {a : RunInput} {r : Answer} {after : Kept} {masks codes : List ℕ} → TableOf image table
      → GivesRunOn (live_run table (view s) a.words a.masks a.codes) s r after masks codes
      → Call image s (to_run a) (output_of_run r masks codes) after
  tick_call : {w : ℕ} {r : TickAnswer} {after : Kept} → GivesTickOn (image_tick image (view s) w) s r after
      → Call image s (one_word w 0 0) (output_of_tick r) after
  tick_call_live : {table : List ℕ} {w : ℕ} {r : TickAnswer} {after : Kept} → TableOf image table
      → GivesTickOn (live_tick table (view s) w) s r after → Call image s (one_word w 0 0) (output_of_tick r) after
  rebind_call : {h k : ℕ} {r : Answer} {after : Kept} → GivesRebindingOn (rebind image (view s) h k) s r after
      → Call image s (to_rebind h k) (output_of_rebinding r) after
  rebind_call_live : {table : List ℕ} {h k : ℕ} {r : Answer} {after : Kept} → TableOf image table
      → GivesRebindingOn (live_rebind table (view s) h k) s r after
      → Call image s (to_rebind h k) (output_of_rebinding r) after

-- calls in a row, each given the state that the one before handed back
pub data CallsInTurn (image : List ℕ) : Kept → List CallInput → List CallOutput → Type 0 where
  none : {s : Kept} → CallsInTurn image s [] []
  more : {s after : Kept} {g : CallInput} {d : CallOutput} {rest : List CallInput} {handed : List CallOutput} → Call image s g d after
      → CallsInTurn image after rest handed → CallsInTurn image s (g ∷ rest) (d ∷ handed)

-- where translate succeeded with n characters, whatever the calls handed back is what the walk of the joined words gives
unfoldable pub Delivered : Type 0
Delivered =
    (text before after : List ℕ) (answer : Answer) → GivesBuffer (translate text before) answer after → (n : ℕ) → reply answer ≡ success n
    → (size : ℕ) → 1 ≤ size → size ≤ PLACES → (made : StateReport) → GivesState (fresh_state size) made
    → (given : List CallInput) (handed : List CallOutput) → CallsInTurn (take n after) made.state given handed
    → handed ≡ walk_outputs size (contents text) given
