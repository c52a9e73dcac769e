-- `end_of`: the place stays between the start and the length.
use Rattle.std.proofs.Common.{◌≤◌, ◌-◌, length}
use Rattle.translate_cases.proofs.end_of.Given as goal

abbrev pub invariant-loop-i : goal.invariant-loop-i
invariant-loop-i l = (l.start ≤ l.i) × (l.i ≤ length l.text)

abbrev pub decreases-loop-i : goal.decreases-loop-i
decreases-loop-i l = length l.text - l.i
