-- The agreement for a caller from C: calls of fairleadow_translate and fairleadow_fresh, then any mixture of calls that run, tick and
-- rebind, on the image's text or on a table that fairleadow_prepare made of it. Each call is known by its contract alone, which is the
-- record that the function's `ensures` cites, and is given the state that the call before it left.
use Rattle.std.specs.Prelude.{ℕ, ◌≤◌, ◌≡◌, List, [], ◌∷◌, map, take}
use Rattle.text.specs.frames.Frame.{contents}
use Rattle.text.specs.frames.Answer.{reply_number, reply_index, reply_count}
use Rattle.translator.specs.Entry.{translate}
use Rattle.tables.specs.Prepare.{prepare}
use Rattle.state.specs.declared.layout.TheConstants.{PLACES}
use Rattle.state.specs.State.{fresh_state}
use Rattle.state.specs.declared.State.{State as Kept}
use Rattle.state.specs.Kept.{view}
use Rattle.rebinding.specs.Rebind.{live_rebind}
use Rattle.runs.specs.machine.Live.{live_run, live_tick}
use Rattle.fairleadow.specs.AnswersForC.{GivesBufferC}
use Rattle.fairleadow.specs.RunsForC.{GivesStateC, run_for, GivesRunC, tick_for, GivesTickC}
use Rattle.fairleadow.specs.RebindingForC.{rebind_for, GivesRebindingC}
use Rattle.agreement.specs.Agreement.{RunInput, RunOutput, CallInput, to_run, to_rebind, CallOutput, walk_outputs}
use Rattle.agreement.specs.Agreement as agreed
use Rattle.agreement.specs.Calls.{one_word}

-- what a call hands back to C beside the state
pub record RunOutputC : Type 0 where
  pub number : ℕ
  pub index : ℕ
  pub count : ℕ
  pub masks : List ℕ
  pub codes : List ℕ

abbrev pub run_output_c : RunOutput → RunOutputC
run_output_c t =
    record {
      number = reply_number t.reply;
      index = reply_index t.reply;
      count =
          reply_count t.reply;
      masks = t.masks;
      codes = t.codes;
    }

pub data CallOutputC : Type 0 where
  by_run_c : RunOutputC → CallOutputC
  by_rebinding_c : ℕ → ℕ → ℕ → CallOutputC

abbrev pub call_output_c : CallOutput → CallOutputC
call_output_c (agreed.by_run t) = by_run_c (run_output_c t)
call_output_c (agreed.by_rebinding r) = by_rebinding_c (reply_number r) (reply_index r) (reply_count r)

-- a tick hands back its mask and its code as lists of one
abbrev pub output_of_tick_c : ℕ → ℕ → ℕ → ℕ → ℕ → CallOutputC
output_of_tick_c returned at made m k = by_run_c (record { number = returned; index = at; count = made; masks = m ∷ []; codes = k ∷ [] })

-- a table of the image, as live calls are handed it:
-- fairleadow_prepare returned 0 with n bytes, and these are the first n or more of its buffer
pub data TableOfC (image : List ℕ) : List ℕ → Type 0 where
  prepared : (before after : List ℕ) (at n : ℕ) → GivesBufferC (prepare image before) 0 at n after
      → (k : ℕ) → n ≤ k → TableOfC image (take k after)

-- one call that is handed the image, or a table of it, and the state s: what else it is given, what it hands back, and the state after it
pub data CallC (image : List ℕ) (s : Kept) : CallInput → CallOutputC → Kept → Type 0 where
  run_call : {a : RunInput} {t : RunOutputC} {after : Kept}
      → GivesRunC (run_for image s a.words a.masks a.codes) s t.number t.index t.count after t.masks t.codes
      → CallC image s (to_run a) (by_run_c t) after
  run_call_live : {table : List ℕ} {a : RunInput} {t : RunOutputC} {after : Kept} → TableOfC image table
      → GivesRunC (live_run table (view s) a.words a.masks a.codes) s
      t.number t.index t.count after t.masks t.codes
      → CallC image s (to_run a) (by_run_c t) after
  tick_call : {w m₀ k₀ returned at made m k : ℕ} {after : Kept}
      → GivesTickC (tick_for image s w) s m₀ k₀ returned at made after m k
      → CallC image s (one_word w m₀ k₀) (output_of_tick_c returned at made m k) after
  tick_call_live : {table : List ℕ} {w m₀ k₀ returned at made m k : ℕ} {after : Kept} → TableOfC image table
      → GivesTickC (live_tick table (view s) w) s m₀ k₀ returned at made after m k
      → CallC image s (one_word w m₀ k₀) (output_of_tick_c returned at made m k) after
  rebind_call : {h k returned at made : ℕ} {after : Kept} → GivesRebindingC (rebind_for image s h k) s returned at made after
      → CallC image s (to_rebind h k) (by_rebinding_c returned at made) after
  rebind_call_live : {table : List ℕ} {h k returned at made : ℕ} {after : Kept} → TableOfC image table
      → GivesRebindingC (live_rebind table (view s) h k) s returned at made after
      → CallC image s (to_rebind h k) (by_rebinding_c returned at made) after

-- calls in a row
pub data CallsInTurnC (image : List ℕ) : Kept → List CallInput → List CallOutputC → Type 0 where
  none : {s : Kept} → CallsInTurnC image s [] []
  more : {s after : Kept} {g : CallInput} {d : CallOutputC} {rest : List CallInput} {handed : List CallOutputC}
      → CallC image s g d after
      → CallsInTurnC image after rest handed → CallsInTurnC image s (g ∷ rest) (d ∷ handed)

-- where fairleadow_translate returned 0 with n characters, whatever the calls handed back is what the walk of the joined words gives
unfoldable pub DeliveredC : Type 0
DeliveredC =
    (text before after : List ℕ) (at n : ℕ) → GivesBufferC (translate text before) 0 at n after
    → (size : ℕ) → 1 ≤ size → size ≤ PLACES → (returned at made : ℕ) (s : Kept)
    → GivesStateC (fresh_state size) returned at made s
    → (given : List CallInput) (handed : List CallOutputC) → CallsInTurnC (take n after) s given handed
    → handed ≡ map call_output_c (walk_outputs size (contents text) given)
