-- `run_all`: each chart ends after the place where it begins.
use Rattle.std.proofs.Common.{◌+◌, ◌-◌, ◌≤◌}
use Rattle.translate_cases.proofs.run_all.Given as goal

abbrev pub invariant-loop-start : goal.invariant-loop-start
invariant-loop-start l = l.start ≤ l.n + 1

abbrev pub decreases-loop-start : goal.decreases-loop-start
decreases-loop-start l = l.n + 1 - l.start
