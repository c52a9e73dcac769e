-- `run_cases::print_ticks` reads eight masks and eight codes.
use Rattle.std.proofs.Common.{◌-◌, ◌≤◌}
use Rattle.run_cases.proofs.print_ticks.Given as goal

abbrev pub invariant-loop-i : goal.invariant-loop-i
invariant-loop-i l = l.i ≤ 8

abbrev pub decreases-loop-i : goal.decreases-loop-i
decreases-loop-i l = 8 - l.i
