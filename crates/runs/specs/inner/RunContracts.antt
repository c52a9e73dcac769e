-- What the functions that make a tick a word promise.
use Rattle.std.specs.Prelude.{ℕ, ◌≡◌, List, length, Result, Ok, Err}
use Rattle.words.specs.lists.Sequences.{over}
use Rattle.text.specs.frames.Verdict.{Verdict, fine, refused}
use Rattle.tables.specs.Table.{table_image}
use Rattle.state.specs.Kept.{view}
use Rattle.ticks.specs.declared.Stop.{Stop}
use Rattle.ticks.specs.declared.Stop.TheVariants as stop
use Rattle.ticks.specs.declared.Tick.{Tick}
use Rattle.ticks.specs.Tick.{finished, tick}
use Rattle.ticks.specs.inner.TickContracts.{number_of, IsStopped}
use Rattle.runs.specs.declared.RunEnd.{RunEnd}
use Rattle.runs.specs.declared.RunEnd.TheVariants.{Over, Full, NoRow}
use Rattle.runs.specs.Run.{ticks}
use Rattle.state.specs.declared.State.{State as Kept}

-- what one tick answers and the state that it leaves
abbrev pub GivesTick : List ℕ → Kept → ℕ → Result Tick Stop → Kept → Type 0
GivesTick b before w (Ok t) after = tick (table_image b) (view before) w ≡ finished t.mask t.code (view after)
GivesTick b before w (Err x) after = IsStopped b before w x after

-- the verdict of a list of ticks by how they end, and how many were finished
abbrev pub verdict_of : RunEnd → Verdict
verdict_of (Over n) = fine
verdict_of (Full n) = refused (number_of stop.Full) 0
verdict_of (NoRow n) = refused (number_of stop.NoRow) 0

abbrev pub count_of : RunEnd → ℕ
count_of (Over n) = n
count_of (Full n) = n
count_of (NoRow n) = n

-- what the ticks over the words answer and leave in the state and the buffers; where none was finished the state is as it was
pub record GivesRunEnd (b : List ℕ) (before : Kept) (ws ms₀ ks₀ : List ℕ) (r : RunEnd) (after : Kept) (ms ks : List ℕ) : Type 0 where
  pub verdict : verdict_of r ≡ (ticks (table_image b) (view before) ws).verdict
  pub count : count_of r ≡ length (ticks (table_image b) (view before) ws).codes
  pub state : view after ≡ (ticks (table_image b) (view before) ws).state
  pub masks : ms ≡ over (ticks (table_image b) (view before) ws).masks ms₀
  pub codes : ks ≡ over (ticks (table_image b) (view before) ws).codes ks₀
  pub kept : count_of r ≡ 0 → after ≡ before
