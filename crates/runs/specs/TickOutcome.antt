-- One tick as a controller calls it: a run of one word, with room for one mask and one code.
use Rattle.std.specs.Prelude.{ℕ, List, [], ◌∷◌, Result, Ok, Err, slice_index}
use Rattle.text.specs.declared.frames.refusals.Refusal.{Refusal}
use Rattle.text.specs.frames.Answer.{Reply, answer_reply}
use Rattle.state.specs.State.{State}
use Rattle.ticks.specs.declared.Tick.{Tick}
use Rattle.runs.specs.Run.{RunOutcome, run}

-- mask and code of the tick, 0 where it is refused, and the state after it
pub record TickOutcome : Type 0 where
  pub reply : Reply
  pub mask : ℕ
  pub code : ℕ
  pub state : State

-- what a run of one word gives
abbrev pub tick_outcome : RunOutcome → TickOutcome
tick_outcome r = record { reply = r.reply; mask = slice_index r.masks 0; code = slice_index r.codes 0; state = r.state }

unfoldable pub image_tick : List ℕ → State → ℕ → TickOutcome
image_tick t s w = tick_outcome (run t s (w ∷ []) (0 ∷ []) (0 ∷ []))

-- what it answers: the tick, or why it is refused
abbrev pub TickAnswer : Type 0
TickAnswer = Result Tick Refusal

-- a finished tick counts 1
abbrev pub tick_reply : TickAnswer → Reply
tick_reply a = answer_reply a 1

abbrev pub answered_mask : TickAnswer → ℕ
answered_mask (Ok t) = t.mask
answered_mask (Err r) = 0

abbrev pub answered_code : TickAnswer → ℕ
answered_code (Ok t) = t.code
answered_code (Err r) = 0
