-- `chart_cases::changed` keeps its count below its index.
use Rattle.std.proofs.Common.{◌≤◌, length}
use Rattle.chart_cases.proofs.changed.Given as goal

abbrev pub invariant-loop-i : goal.invariant-loop-i
invariant-loop-i l = (l.i ≤ length l.out) × (l.n ≤ l.i)
