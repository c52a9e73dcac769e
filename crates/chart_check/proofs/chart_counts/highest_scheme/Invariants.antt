-- `chart_check::chart_counts::highest_scheme` meets its contract: the highest of the nodes passed.
use Rattle.std.proofs.Common.{◌≡◌, ◌≤◌}
use Rattle.words.specs.lists.Numbers.{highest}
use Rattle.text.specs.frames.Frame.{size}
use Rattle.charts.specs.Chart.{scheme}
use Rattle.chart_check.proofs.chart_counts.highest_scheme.Given as goal

abbrev pub invariant-loop-v : goal.invariant-loop-v
invariant-loop-v l = record {
  inside : l.v ≤ size l.records;
  highest : l.highest ≡ highest (scheme l.records) 0 l.v;
}
