-- `chart_check::circles::search_circle` meets its contract: the loop keeps what is left to search.
use Rattle.std.proofs.Common.{◌≡◌, length}
use Rattle.words.specs.lists.Numbers.{lowest}
use Rattle.words.proofs.lists.Searches.{Searching}
use Rattle.text.specs.frames.Frame.{size}
use Rattle.charts.specs.Check.{is_on_circle}
use Rattle.chart_check.proofs.circles.search_circle.Given as goal

abbrev pub invariant-loop-v : goal.invariant-loop-v
invariant-loop-v l = record {
  same : length l.list ≡ length l.fn.list;
  search : Searching (is_on_circle l.records) (size l.records) l.v (lowest (is_on_circle l.records) 0 (size l.records));
}
