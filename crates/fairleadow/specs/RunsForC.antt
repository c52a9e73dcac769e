-- What a call from C that makes a state, runs or ticks hands back, and the state that it leaves.
use Rattle.std.specs.Prelude.{ℕ, ◌≡◌, List}
use Rattle.state.specs.State.{StateOutcome}
use Rattle.runs.specs.Run.{RunOutcome, run}
use Rattle.runs.specs.TickOutcome.{TickOutcome, image_tick}
use Rattle.runs.specs.machine.Live.{live_run, live_tick}
use Rattle.runs.specs.InPlace.{state_after, if_ticked}
use Rattle.state.specs.declared.State.{State as Kept}
use Rattle.state.specs.Kept.{view, stored}
use Rattle.fairleadow.specs.AnswersForC.{GivesReplyC}

-- a call that makes a state: it is written, after 14 too, and then each byte of it is 0
pub record GivesStateC (x : StateOutcome) (returned at made : ℕ) (after : Kept) : Type 0 where
  pub told : GivesReplyC x.reply returned at made
  pub state : after ≡ stored x.state

-- a run on a state that C keeps
abbrev pub run_for : List ℕ → Kept → List ℕ → List ℕ → List ℕ → RunOutcome
run_for image state words masks codes = run image (view state) words masks codes

-- the same on a prepared table
abbrev pub live_run_for : List ℕ → Kept → List ℕ → List ℕ → List ℕ → RunOutcome
live_run_for table state words masks codes = live_run table (view state) words masks codes

-- a call that runs, with the state before it and what state, masks and codes are after it
pub record GivesRunC (x : RunOutcome) (before : Kept) (returned at made : ℕ) (after : Kept) (ms ks : List ℕ) : Type 0 where
  pub told : GivesReplyC x.reply returned at made
  pub state : after ≡ state_after before x
  pub masks : ms ≡ x.masks
  pub codes : ks ≡ x.codes

-- one tick of a state that C keeps
abbrev pub tick_for : List ℕ → Kept → ℕ → TickOutcome
tick_for image state word = image_tick image (view state) word

-- the same on a prepared table
abbrev pub live_tick_for : List ℕ → Kept → ℕ → TickOutcome
live_tick_for table state word = live_tick table (view state) word

-- a call that makes one tick, with state, mask and code before it and after it
pub record GivesTickC (x : TickOutcome) (before : Kept) (m₀ k₀ : ℕ) (returned at made : ℕ) (after : Kept) (m k : ℕ) : Type 0 where
  pub told : GivesReplyC x.reply returned at made
  pub state : after ≡ if_ticked x (stored x.state) before
  pub mask : m ≡ if_ticked x x.mask m₀
  pub code : k ≡ if_ticked x x.code k₀
