-- The agreement: what a whole list of runs and rebindings hands back, against what the walk of the joined words gives.
use Rattle.std.specs.Prelude.{ℕ, suc, ◌+◌, ◌-◌, ◌≤◌, min, Bool, true, false, ◌&&◌, not, ◌≡◌, List, [], ◌∷◌, ◌++◌, map, nat_lt, nat_le, ◌==◌}
use Rattle.std.specs.Prelude.{if◌then◌else◌}
use Rattle.std.specs.Prelude.{length, take, drop}
use Rattle.words.specs.lists.Sequences.{over}
use Rattle.bindings.specs.Binding.{Binding, own_binding, rebound_binding, is_bad_rebinding}
use Rattle.text.specs.declared.frames.codes.TheConstants.{OPERATION_CALL_CODE}
use Rattle.text.specs.declared.frames.refusals.TheConstants.{NO_ROOM, FULL, BAD_REBINDING}
use Rattle.text.specs.frames.Frame.{contents}
use Rattle.text.specs.frames.Answer.{Reply, success, refusal, BufferOutcome}
use Rattle.charts.specs.Chart.{Chart, schemes, handler}
use Rattle.walk.specs.Walk.{Signal, signals, Tick, is_drop, walk}
use Rattle.translator.specs.Entry.{translate}
use Rattle.state.specs.declared.layout.TheConstants.{PLACES}
use Rattle.state.specs.State.{State, StateOutcome}
use Rattle.runs.specs.Run.{RunOutcome, has_no_room}

-- ---- the four functions that the demand speaks of
abbrev pub Translator : Type 0
Translator = List ℕ → List ℕ → BufferOutcome

abbrev pub Maker : Type 0
Maker = ℕ → StateOutcome

abbrev pub Runner : Type 0
Runner = List ℕ → State → List ℕ → List ℕ → List ℕ → RunOutcome

abbrev pub Rebinder : Type 0
Rebinder = List ℕ → State → ℕ → ℕ → StateOutcome

-- ---- the chain of calls
-- what one run is given beside image and state: its words, and the two buffers as they are before it
pub record RunInput : Type 0 where
  pub words : List ℕ
  pub masks : List ℕ
  pub codes : List ℕ

-- what it hands back beside the state
pub record RunOutput : Type 0 where
  pub reply : Reply
  pub masks : List ℕ
  pub codes : List ℕ

abbrev pub output_of : RunOutcome → RunOutput
output_of r = record { reply = r.reply; masks = r.masks; codes = r.codes }

-- what a call of the list is given: it is a run, or a rebinding after which number h is served by scheme k
pub data CallInput : Type 0 where
  to_run : RunInput → CallInput
  to_rebind : ℕ → ℕ → CallInput

-- and what it hands back
pub data CallOutput : Type 0 where
  by_run : RunOutput → CallOutput
  by_rebinding : Reply → CallOutput

-- each call is handed the image, and the state that the one before returned
unfoldable pub call_outputs : Runner → Rebinder → List ℕ → State → List CallInput → List CallOutput
call_outputs run rebind image s [] = []
call_outputs run rebind image s (to_run a ∷ rest) =
    let r = run image s a.words a.masks a.codes in by_run (output_of r) ∷ call_outputs run rebind image r.state rest
call_outputs run rebind image s (to_rebind h k ∷ rest) = let r = rebind image s h k in
    by_rebinding r.reply ∷ call_outputs run rebind image r.state rest

-- ---- what the walk gives
-- less output space than words: refused for that, and it joins none
abbrev pub is_short : RunInput → Bool
is_short a = has_no_room a.words a.masks a.codes

-- a rebinding that 22 refuses, by the chart's schemes and handler, and the binding after a rebinding
abbrev pub is_barred_rebinding : Chart → ℕ → ℕ → Bool
is_barred_rebinding c h k = is_bad_rebinding (schemes c) (handler c) h k

abbrev pub binding_after : Chart → ℕ → ℕ → Binding → Binding
binding_after c h k s = if is_barred_rebinding c h k then s else rebound_binding h k s

-- the words of all runs, each told the binding that the rebindings before it have made of s
unfoldable pub joined_words : Chart → Binding → List CallInput → List Signal
joined_words c s [] = []
joined_words c s (to_run a ∷ rest) = (if is_short a then [] else signals s a.words) ++ joined_words c s rest
joined_words c s (to_rebind h k ∷ rest) = joined_words c (binding_after c h k s) rest

-- a call, of an operation or of a function, that finds n schemes open and is made: with a handler, one that finds it first of them
abbrev pub is_full_call : ℕ → Tick → Bool
is_full_call n t = nat_le OPERATION_CALL_CODE t.code && not (is_drop t) && t.opened == n

-- how many ticks come before the first of these
unfoldable pub bound : ℕ → List Tick → ℕ
bound n [] = 0
bound n (t ∷ ts) = elim (is_full_call n t) [ true ↦ 0 | false ↦ suc (bound n ts) ]

-- a run whose words stand from p on among the joined ones: its ticks are those of the walk that fall on its words and come before
-- tick b, and it is refused with 17 where its words include that of tick b or a later one
abbrev pub expected_output : ℕ → List Tick → ℕ → RunInput → RunOutput
expected_output b ts p a =
    let end = p + length a.words in
    let done = min end b - min p b in
    let mine = take done (drop p ts) in
    record {
      reply = if nat_lt b end && nat_lt 0 (length a.words) then refusal FULL 0 done else success done;
      masks = over (map (λ (t : Tick). t.mask) mine) a.masks;
      codes = over (map (λ (t : Tick). t.code) mine) a.codes;
    }

abbrev pub output_refused_short : RunInput → RunOutput
output_refused_short a = record { reply = refusal NO_ROOM 0 0; masks = a.masks; codes = a.codes }

abbrev pub reply_to : Chart → ℕ → ℕ → Reply
reply_to c h k = if is_barred_rebinding c h k then refusal BAD_REBINDING 0 0 else success 0

unfoldable pub expected_outputs : Chart → ℕ → List Tick → ℕ → List CallInput → List CallOutput
expected_outputs c b ts p [] = []
expected_outputs c b ts p (to_run a ∷ rest) = elim (is_short a) [
  | true ↦ by_run (output_refused_short a) ∷ expected_outputs c b ts p rest
  | false ↦ by_run (expected_output b ts p a) ∷ expected_outputs c b ts (p + length a.words) rest
]
expected_outputs c b ts p (to_rebind h k ∷ rest) = by_rebinding (reply_to c h k) ∷ expected_outputs c b ts p rest

-- what the walk of the joined words gives, with that many places and each number served by its own scheme before the first call
abbrev pub walk_outputs : ℕ → Chart → List CallInput → List CallOutput
walk_outputs size c given =
    let ticks = walk size c (joined_words c own_binding given) in expected_outputs c (bound size ticks) ticks 0 given

-- ---- the demand
-- For every text that translates, with n characters written to a buffer, every stack size of 1 to 32 and every list of runs and rebindings.
unfoldable pub Agreement : Translator → Maker → Runner → Rebinder → Type 0
Agreement translator fresh run rebind =
    (text out : List ℕ) (n : ℕ) → (translator text out).reply ≡ success n
    → (size : ℕ) → 1 ≤ size → size ≤ PLACES → (given : List CallInput)
    → call_outputs run rebind (take n (translator text out).buffer) (fresh size).state given ≡ walk_outputs size (contents text) given

-- ---- of the translator: it is the definition's, answer and buffer
abbrev pub Translates : Translator → Type 0
Translates f = (text out : List ℕ) → f text out ≡ translate text out
