-- `output::run_output::count_up` meets its contract: each place passed holds its own number.
use Rattle.std.proofs.Common.{rules}
use Rattle.output.proofs.run_output.Runs.{counted-none, counted-turn, counted-all}
use Rattle.output.proofs.run_output.count_up.Goals as goal

pub loop-i-init : goal.loop-i-init
loop-i-init c = counted-none

pub loop-i-preserved : goal.loop-i-preserved
loop-i-preserved c = counted-turn _ _ c.loop-i.invariant (search rules)

pub returns : goal.returns
returns c = counted-all _ _ c.loop-i.invariant (search rules)
