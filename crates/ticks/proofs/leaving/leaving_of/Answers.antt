-- `ticks::leaving::leaving_of` meets its contract: at home the tick is the same by every word.
use Rattle.state.specs.Kept.{view}
use Rattle.ticks.proofs.leaving.LeavingCases.{home-same}
use Rattle.ticks.proofs.leaving.leaving_of.Goals as goal

pub returns-in-0 : goal.returns-in-0
returns-in-0 c = home-same _ (view c.args.state.now) c.in-0.is
