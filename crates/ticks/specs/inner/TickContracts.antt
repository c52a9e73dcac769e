-- What the functions of a tick on a prepared table and on a state that is kept ask and promise.
use Rattle.std.specs.Prelude.{ℕ, ◌-◌, ◌≡◌, List, if◌then◌else◌, ◌==◌}
use Rattle.results.specs.Results.{Results, result_of}
use Rattle.text.specs.declared.frames.refusals.TheConstants.{FULL, NO_ROW}
use Rattle.image.specs.declared.layout.TheConstants.{NO_BIT, FUNCTION_CALL}
use Rattle.image.specs.Image.{Image}
use Rattle.tables.specs.Table.{table_image}
use Rattle.rows.specs.Rows.{Found}
use Rattle.state.specs.State.{State, place_at}
use Rattle.state.specs.Kept.{view}
use Rattle.ticks.specs.Tick.{top_of, row_leads, finished, stopped, tick}
use Rattle.ticks.specs.declared.Stop.{Stop}
use Rattle.ticks.specs.declared.Stop.TheVariants.{Full, NoRow}
use Rattle.ticks.specs.declared.TickEnd.{TickEnd}
use Rattle.ticks.specs.declared.TickEnd.TheVariants as end
use Rattle.state.specs.declared.State.{State as Kept}

-- where the label beneath the top leads
abbrev pub beneath : Image → State → ℕ → Found
beneath i s w = row_leads i s.bits (place_at s (s.depth - 2)) w

-- the bit that decides among the rows of a label of that kind, or 2 where none does
abbrev pub bit_of : ℕ → ℕ → Results → ℕ
bit_of kind called b = if kind == FUNCTION_CALL then (if result_of called b then 1 else 0) else NO_BIT

-- ---- the number of what stops a tick
abbrev pub number_of : Stop → ℕ
number_of Full = FULL
number_of NoRow = NO_ROW

-- a tick by the word w is stopped by x, and leaves the state as it was
pub record IsStopped (b : List ℕ) (before : Kept) (w : ℕ) (x : Stop) (after : Kept) : Type 0 where
  pub stops : tick (table_image b) (view before) w ≡ stopped (number_of x)
  pub kept : after ≡ before

-- a tick by the word w is finished, and what it gives, the state that it leaves and the label at the top of it are these
pub record IsFinished (b : List ℕ) (before : Kept) (w mask code next : ℕ) (after : Kept) : Type 0 where
  pub gives : tick (table_image b) (view before) w ≡ finished mask code (view after)
  pub label : next ≡ top_of (view after)

-- what a tick by the word w answers and the state that it leaves
abbrev pub GivesTickEnd : List ℕ → Kept → ℕ → TickEnd → Kept → Type 0
GivesTickEnd b before w (end.Finished mask code next) after = IsFinished b before w mask code next after
GivesTickEnd b before w end.Full after = IsStopped b before w Full after
GivesTickEnd b before w end.NoRow after = IsStopped b before w NoRow after
