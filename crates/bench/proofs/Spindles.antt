-- The cases of four spindles hold, computed.
use Rattle.std.proofs.Common.{refl}
use Rattle.runs.specs.TickOutcome.{image_tick}
use Rattle.runs.specs.machine.Live.{live_verdict, live_run, live_tick}
use Rattle.spindles.specs.Spindles.{depths, spin, live_spin}
use Rattle.bench.specs.Bench.{image_p}
use Rattle.bench.specs.Handler.{image_handler}
use Rattle.bench.specs.Spindles.{SpindleCases}
use Rattle.bench.proofs.Computing.{running}

pub spindle-cases : SpindleCases
unfolding running image_tick live_verdict live_run live_tick depths spin live_spin image_p image_handler
spindle-cases = record {
  no-spindle = refl;
  no-image = refl;
  wrong-sum = refl;
  too-many = refl;
  three = refl;
  five = refl;
  unfit-own = refl;
  stack-full = refl;
  no-place = refl;
  return-back = refl;
  plain = refl;
  drop-back = refl;
  last-place = refl;
  no-table = refl;
  no-live-spindle = refl;
}
