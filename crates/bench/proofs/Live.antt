-- The cases of prepared tables and of live ticks hold, computed.
use Rattle.std.proofs.Common.{◌≡◌, refl, sym, ◌∙◌}
use Rattle.tables.specs.Prepare.{noted_to, prepare}
use Rattle.tables.specs.Table.{table_image}
use Rattle.runs.specs.machine.Live.{live_verdict, live_run, live_tick}
use Rattle.bench.specs.Bench.{image_p}
use Rattle.bench.specs.Live.{LiveCases, bytes_p}
use Rattle.bench.proofs.Tables.{table_p, of-P}
use Rattle.bench.proofs.Computing.{running}

held : table_image bytes_p ≡ table_p
unfolding running table_image table_p bytes_p
held = refl

pub live-cases : LiveCases
unfolding running noted_to prepare table_image live_verdict live_run live_tick image_p bytes_p
live-cases = record {
  prepared = refl;
  kept = refl;
  unchecked = refl;
  holds = held ∙ sym of-P.decodes;
  unfit = refl;
  plain = refl;
  full = refl;
  dropped = (refl, refl, refl, refl);
  bottom = refl;
  first = refl;
  high = refl;
  cut = refl;
  counts = refl;
  behind = refl;
  called = refl;
  bit = refl;
  leading = refl;
}
