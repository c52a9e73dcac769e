-- `chart_check::chart_counts::count_schemes` meets its contract: the nodes passed have good fields and are counted.
use Rattle.chart_check.proofs.chart_counts.PassLoops.{CountingNodes}
use Rattle.chart_check.proofs.chart_counts.count_schemes.Given as goal

abbrev pub invariant-loop-v : goal.invariant-loop-v
invariant-loop-v l = CountingNodes l.records l.n l.v l.highest l.begins l.ends
