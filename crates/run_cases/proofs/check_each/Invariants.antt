-- `run_cases::check_each` lends pairs that are all within the edits.
use Rattle.std.proofs.Common.{◌*◌, ◌≤◌, length}
use Rattle.run_cases.proofs.check_each.Given as goal

abbrev pub invariant-loop-i : goal.invariant-loop-i
invariant-loop-i l = (l.i ≤ l.n) × (2 * l.n ≤ length l.edits)
