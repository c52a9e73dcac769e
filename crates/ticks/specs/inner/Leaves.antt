-- What is promised of the label whose row a tick takes.
use Rattle.std.specs.Prelude.{ℕ, ◌≤◌, ◌≡◌, List, Option, None, Some, if◌then◌else◌}
use Rattle.text.specs.declared.frames.refusals.TheConstants.{NO_ROW}
use Rattle.image.specs.Decode.{last_label}
use Rattle.tables.specs.Table.{table_image}
use Rattle.rows.specs.Rows.{best_row, lead_of}
use Rattle.rows.specs.inner.Search.{is_found, Deciding}
use Rattle.state.specs.State.{State}
use Rattle.ticks.specs.Tick.{MachineTick, finished, stopped, tick}
use Rattle.ticks.specs.declared.leaving.Leaving.{Leaving}

-- the number that a tick gets, 0 where it is finished
abbrev pub number_got : MachineTick → ℕ
number_got (finished m code t) = 0
number_got (stopped n) = n

-- a tick that takes a row of this label is finished where one matches its word, and else gets 18
pub record LeavesBy (b : List ℕ) (s : State) (x : Leaving) : Type 0 where
  pub low : 2 ≤ x.label
  pub high : x.label ≤ last_label b
  pub deciding : Deciding b x.label x.bit
  pub ends : (w : ℕ) → number_got (tick (table_image b) s w)
      ≡ (if is_found (lead_of (best_row x.label w x.bit 0 (table_image b).rows)) then 0 else NO_ROW)

-- a tick that takes none is the same by every word
abbrev pub GivesLeaving : List ℕ → State → Option Leaving → Type 0
GivesLeaving b s None = (v w : ℕ) → tick (table_image b) s v ≡ tick (table_image b) s w
GivesLeaving b s (Some x) = LeavesBy b s x
