use Rattle.std.proofs.Common.{length, ◌-◌}
use Rattle.runs.proofs.TurnCases.{RunTurn}
use Rattle.runs.proofs.runs.tick_all.Given as goal

abbrev pub invariant-loop-i : goal.invariant-loop-i
invariant-loop-i l = RunTurn l.table.bytes.now l.fn.state l.words l.fn.masks l.fn.codes l.state l.masks l.codes l.label l.i

abbrev pub decreases-loop-i : goal.decreases-loop-i
decreases-loop-i l = length l.words - l.i
