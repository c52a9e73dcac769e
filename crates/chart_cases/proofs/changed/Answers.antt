-- `chart_cases::changed` keeps its count below its index.
use Rattle.std.proofs.Common.{arith}
use Rattle.chart_cases.proofs.changed.Goals.{else-out-i, then-out-i}
use Rattle.chart_cases.proofs.changed.Goals as goal

pub loop-i-preserved : goal.loop-i-preserved
loop-i-preserved c = elim c.if-out-i.branch [ then-out-i w ↦ omega arith | else-out-i w ↦ omega arith ]
