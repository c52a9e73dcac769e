-- `chart_check::chart_handler::handler_scheme`: the highest scheme that the nodes passed mark.
use Rattle.std.proofs.Common.{◌≡◌, ◌≤◌}
use Rattle.words.specs.lists.Numbers.{highest}
use Rattle.text.specs.frames.Frame.{size}
use Rattle.charts.specs.Chart.{handler_at}
use Rattle.chart_check.proofs.chart_handler.handler_scheme.Given as goal

abbrev pub invariant-loop-v : goal.invariant-loop-v
invariant-loop-v l = (l.v ≤ l.n) × (l.n ≡ size l.records) × (l.highest ≡ highest (handler_at l.records) 0 l.v)
