-- `chart_check::node_marks::mark_kind`: the nodes passed are marked as they should be.
use Rattle.std.proofs.Common.{◌≡◌, ◌≤◌, ◌++◌, map, length, drop}
use Rattle.words.specs.lists.Numbers.{range}
use Rattle.text.specs.frames.Frame.{size}
use Rattle.charts.specs.Chart.{is}
use Rattle.chart_check.proofs.node_marks.mark_kind.Given as goal

abbrev pub invariant-loop-v : goal.invariant-loop-v
invariant-loop-v l =
    (l.v ≤ l.n) × (l.n ≡ size l.records) × (length l.marks ≡ l.n)
    × (l.marks ≡ map (is l.records l.kind) (range 0 l.v) ++ drop l.v l.fn.marks)
