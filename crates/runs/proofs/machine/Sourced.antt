-- A run and a tick by an image's text are those on the image, and by a prepared table the live ones.
use Rattle.std.proofs.Common.{◌≡◌, refl, ℕ, List}
use Rattle.text.specs.frames.Frame.{contents}
use Rattle.text.specs.frames.Verdict.{when}
use Rattle.image.specs.Decode.{decoded_image}
use Rattle.image.specs.Check.{image_verdict}
use Rattle.tables.specs.Table.{is_bad_table, table_image}
use Rattle.state.specs.State.{State}
use Rattle.runs.specs.Run.{run, run_verdict}
use Rattle.runs.specs.TickOutcome.{image_tick}
use Rattle.runs.specs.machine.Live.{live_verdict, live_run, live_tick}
use Rattle.runs.specs.inner.Sources.{sourced_run, sourced_tick}

module _ (t : List ℕ) (s : State) where
  pub text-run : (ws ms ks : List ℕ) → sourced_run (image_verdict t) (decoded_image (contents t)) s ws ms ks ≡ run t s ws ms ks
  unfolding sourced_run run run_verdict
  text-run ws ms ks = refl

  pub text-tick : (w : ℕ) → sourced_tick (image_verdict t) (decoded_image (contents t)) s w ≡ image_tick t s w
  unfolding sourced_tick sourced_run image_tick run run_verdict
  text-tick w = refl

module _ (b : List ℕ) (s : State) where
  pub table-run : (ws ms ks : List ℕ) → sourced_run (when 11 (is_bad_table b)) (table_image b) s ws ms ks ≡ live_run b s ws ms ks
  unfolding sourced_run live_run live_verdict
  table-run ws ms ks = refl

  pub table-tick : (w : ℕ) → sourced_tick (when 11 (is_bad_table b)) (table_image b) s w ≡ live_tick b s w
  unfolding sourced_tick sourced_run live_tick live_run live_verdict
  table-tick w = refl

pub ruleset sourced = (text-run, text-tick, table-run, table-tick)
