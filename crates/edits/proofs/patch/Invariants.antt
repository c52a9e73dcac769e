-- `edits::patch` meets its contract: the edits left are made on the bytes as they are.
use Rattle.std.proofs.Common.{length, ◌-◌}
use Rattle.edits.proofs.PatchLoops.{Patching}
use Rattle.edits.proofs.patch.Given as goal

abbrev pub invariant-loop-i : goal.invariant-loop-i
invariant-loop-i l = Patching l.initial.bytes l.edits l.bytes l.i

abbrev pub decreases-loop-i : goal.decreases-loop-i
decreases-loop-i l = length l.edits - l.i
