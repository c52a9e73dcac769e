-- Functions that do too little: none that has one of these properties meets the translator's equation or the agreement.
use Rattle.std.specs.Prelude.{ℕ, ◌≤◌, ◌<◌, Bool, true, false, ◌≡◌, List, ◌∷◌, take, length, replicate, slice_index}
use Rattle.words.specs.lists.Sequences.{over}
use Rattle.text.specs.frames.Verdict.{fine}
use Rattle.text.specs.frames.Answer.{Reply, success, refusal, reply_number, reply_count}
use Rattle.charts.specs.Entry.{read_verdict}
use Rattle.translator.specs.Entry.{translate}
use Rattle.state.specs.State.{State, fresh_state}
use Rattle.runs.specs.Run.{RunOutcome, run_verdict, run}
use Rattle.rebinding.specs.Rebind.{rebind}
use Rattle.agreement.specs.Agreement.{Runner, Rebinder, Translator, CallInput, call_outputs, Agreement, Translates}

-- ---- translators
-- every chart is turned back, whatever the number
abbrev pub is_refusal : Reply → Bool
is_refusal (success n) = false
is_refusal (refusal k i n) = true

abbrev pub TurnsBack : Translator → Type 0
TurnsBack f = (text out : List ℕ) → read_verdict text ≡ fine → is_refusal (f text out).reply ≡ true

abbrev pub TurnsBackFails : Type 0
TurnsBackFails = (f : Translator) → TurnsBack f → Translates f → ⊥

-- one image for all charts: wherever it succeeds, that is what it wrote
abbrev pub WritesOnly : List ℕ → Translator → Type 0
WritesOnly x f = (text out : List ℕ) (n : ℕ) → (f text out).reply ≡ success n → take n (f text out).buffer ≡ x

abbrev pub OneImageFails : Type 0
OneImageFails = (x : List ℕ) (f : Translator) → WritesOnly x f → Translates f → ⊥

-- ---- runs
-- 17 for all runs with a word that 1 to 16 let pass
abbrev pub AlwaysFull : Runner → Type 0
AlwaysFull f = (image : List ℕ) (s : State) (w : ℕ) (ws masks codes : List ℕ)
    → run_verdict image s (w ∷ ws) masks codes ≡ fine → reply_number (f image s (w ∷ ws) masks codes).reply ≡ 17

abbrev pub AlwaysFullFails : Type 0
AlwaysFullFails = (f : Runner) (g : Rebinder) → AlwaysFull f → Agreement translate fresh_state f g → ⊥

-- all ticks that it counts are home ticks
abbrev pub AlwaysHome : Runner → Type 0
AlwaysHome f = (image : List ℕ) (s : State) (ws masks codes : List ℕ) → let r = f image s ws masks codes in
    r.codes ≡ over (replicate (reply_count r.reply) 4) codes

abbrev pub AlwaysHomeFails : Type 0
AlwaysHomeFails = (f : Runner) (g : Rebinder) → AlwaysHome f → Agreement translate fresh_state f g → ⊥

-- after a call all ticks that it counts are plain
abbrev pub PlainAfterCall : Runner → Type 0
PlainAfterCall f = (image : List ℕ) (s : State) (ws masks codes : List ℕ) → let r = f image s ws masks codes in
    (j k : ℕ) → j < k → k < reply_count r.reply → 16 ≤ slice_index r.codes j → slice_index r.codes k ≡ 0

abbrev pub PlainAfterCallFails : Type 0
PlainAfterCallFails = (f : Runner) (g : Rebinder) → PlainAfterCall f → Agreement translate fresh_state f g → ⊥

-- after a drop no tick that it counts is a home tick
abbrev pub StaysInHandler : Runner → Type 0
StaysInHandler f = (image : List ℕ) (s : State) (ws masks codes : List ℕ) → let r = f image s ws masks codes in
    (j k : ℕ) → j < k → k < reply_count r.reply → slice_index r.codes j ≡ 96 → slice_index r.codes k ≡ 4 → ⊥

abbrev pub StaysInHandlerFails : Type 0
StaysInHandlerFails = (f : Runner) (g : Rebinder) → StaysInHandler f → Agreement translate fresh_state f g → ⊥

-- after a drop all ticks that it counts are home ticks
abbrev pub HomeAfterDrop : Runner → Type 0
HomeAfterDrop f = (image : List ℕ) (s : State) (ws masks codes : List ℕ) → let r = f image s ws masks codes in
    (j k : ℕ) → j < k → k < reply_count r.reply → slice_index r.codes j ≡ 96 → slice_index r.codes k ≡ 4

abbrev pub HomeAfterDropFails : Type 0
HomeAfterDropFails = (f : Runner) (g : Rebinder) → HomeAfterDrop f → Agreement translate fresh_state f g → ⊥

-- a run that changes nothing leaves its buffers and its state; either is too little
abbrev pub WritesNothing : Runner → Type 0
WritesNothing f = (image : List ℕ) (s : State) (ws masks codes : List ℕ) → (f image s ws masks codes).codes ≡ codes

abbrev pub WritesNothingFails : Type 0
WritesNothingFails = (f : Runner) (g : Rebinder) → WritesNothing f → Agreement translate fresh_state f g → ⊥

abbrev pub KeepsState : Runner → Type 0
KeepsState f = (image : List ℕ) (s : State) (ws masks codes : List ℕ) → (f image s ws masks codes).state ≡ s

abbrev pub KeepsStateFails : Type 0
KeepsStateFails = (f : Runner) (g : Rebinder) → KeepsState f → Agreement translate fresh_state f g → ⊥

-- a count that is not the ticks written, in all runs with a word that 1 to 16 let pass
pub record Miscount (codes : List ℕ) (r : RunOutcome) : Type 0 where
  pub written : List ℕ
  pub buffer : r.codes ≡ over written codes
  pub differs : reply_count r.reply ≡ length written → ⊥

abbrev pub Miscounts : Runner → Type 0
Miscounts f = (image : List ℕ) (s : State) (w : ℕ) (ws masks codes : List ℕ)
    → run_verdict image s (w ∷ ws) masks codes ≡ fine → Miscount codes (f image s (w ∷ ws) masks codes)

abbrev pub MiscountsFails : Type 0
MiscountsFails = (f : Runner) (g : Rebinder) → Miscounts f → Agreement translate fresh_state f g → ⊥

-- ---- and no other: whatever meets the agreement hands back what the definitions do, in every list of runs and rebindings
abbrev pub OnlyThese : Type 0
OnlyThese =
    (f : Runner) (g : Rebinder) → Agreement translate fresh_state f g
    → (text out : List ℕ) (n : ℕ) → (translate text out).reply ≡ success n
    → (size : ℕ) → 1 ≤ size → size ≤ 32 → (given : List CallInput) → let image = take n (translate text out).buffer in
    call_outputs f g image (fresh_state size).state given ≡ call_outputs run rebind image (fresh_state size).state given
