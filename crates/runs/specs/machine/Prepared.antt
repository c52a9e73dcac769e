-- On the table that was prepared from an image, live runs and live ticks are the image's own, from every state.
use Rattle.std.specs.Prelude.{ℕ, false, ◌≡◌, List}
use Rattle.text.specs.frames.Frame.{contents}
use Rattle.text.specs.frames.Verdict.{fine}
use Rattle.image.specs.Decode.{decoded_image}
use Rattle.image.specs.Check.{image_verdict}
use Rattle.tables.specs.Table.{is_bad_table, table_image}
use Rattle.state.specs.State.{State}
use Rattle.runs.specs.Run.{run}
use Rattle.runs.specs.TickOutcome.{image_tick}
use Rattle.runs.specs.machine.Live.{live_run, live_tick}

-- the bytes b hold the image that the text t says, and neither is refused
pub record PreparedTable (t b : List ℕ) : Type 0 where
  pub header : is_bad_table b ≡ false
  pub holds : table_image b ≡ decoded_image (contents t)
  pub accepted : image_verdict t ≡ fine

abbrev pub LiveRunIs : Type 0
LiveRunIs = (t b : List ℕ) → PreparedTable t b → (s : State) (ws ms ks : List ℕ) → live_run b s ws ms ks ≡ run t s ws ms ks

abbrev pub LiveTickIs : Type 0
LiveTickIs = (t b : List ℕ) → PreparedTable t b → (s : State) (w : ℕ) → live_tick b s w ≡ image_tick t s w
