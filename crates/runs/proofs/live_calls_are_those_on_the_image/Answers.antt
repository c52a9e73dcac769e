use Rattle.runs.proofs.live_calls_are_those_on_the_image.Goals as goal
use Rattle.runs.proofs.machine.Live.{live-run-is, live-tick-is}

pub returns-clause-run : goal.returns-clause-run
returns-clause-run c t b p = live-run-is p

pub returns-clause-tick : goal.returns-clause-tick
returns-clause-tick c t b p = live-tick-is p
