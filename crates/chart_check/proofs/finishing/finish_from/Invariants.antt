-- `chart_check::finishing::finish_from` meets its contract: the path goes on, or goes back from a node that is finished.
use Rattle.std.proofs.Common.{◌+◌}
use Rattle.chart_check.proofs.finishing.FinishedCases.{Standing}
use Rattle.chart_check.proofs.finishing.finish_from.Given as goal

abbrev pub invariant-loop-left : goal.invariant-loop-left
invariant-loop-left l = Standing l.records l.unfinished l.path l.left l.depth l.at

abbrev pub decreases-loop-left : goal.decreases-loop-left
decreases-loop-left l = l.left + l.left + l.depth
