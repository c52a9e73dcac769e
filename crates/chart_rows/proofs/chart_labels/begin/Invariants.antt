-- `chart_rows::chart_labels::begin`: what is left of the search is the whole search.
use Rattle.std.proofs.Common.{◌-◌, ◌≡◌}
use Rattle.words.proofs.lists.Searches.{Searching}
use Rattle.text.specs.frames.Frame.{size}
use Rattle.charts.specs.Chart.{is_of, begin}
use Rattle.chart_rows.proofs.chart_labels.begin.Given as goal

abbrev pub invariant-loop-v : goal.invariant-loop-v
invariant-loop-v l = (l.n ≡ size l.records) × Searching (is_of l.records 0 l.scheme) l.n l.v (begin l.records l.scheme)

abbrev pub decreases-loop-v : goal.decreases-loop-v
decreases-loop-v l = l.n - l.v
