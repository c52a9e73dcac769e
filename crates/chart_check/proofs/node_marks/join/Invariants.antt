-- `chart_check::node_marks::join`: the first i of the list are followed.
use Rattle.std.proofs.Common.{◌-◌}
use Rattle.text.specs.frames.Frame.{size}
use Rattle.chart_check.proofs.node_marks.MarkCases.{Turn}
use Rattle.chart_check.proofs.node_marks.join.Given as goal

abbrev pub invariant-loop-i : goal.invariant-loop-i
invariant-loop-i l = Turn l.records l.conditions l.fn.marks l.fn.list l.marks l.list l.end l.i

abbrev pub decreases-loop-i : goal.decreases-loop-i
decreases-loop-i l = size l.records - l.i
