-- `chart_check::node_marks::mark_kind`: one more node has the mark of its kind.
use Rattle.std.proofs.Common.{arith, length-set}
use Rattle.std.proofs.lemmas.Grind.{common_steps}
use Rattle.chart_check.proofs.node_marks.MarkCases.{kinds-more}
use Rattle.chart_check.proofs.node_marks.mark_kind.Goals as goal

pub loop-v-preserved : goal.loop-v-preserved
loop-v-preserved c = grind (arith, common_steps, length-set, kinds-more, c.loop-v.invariant.1, c.loop-v.invariant.2, c.loop-v.invariant.3)
