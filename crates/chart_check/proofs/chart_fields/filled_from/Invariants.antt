-- `chart_check::chart_fields::filled_from` meets its contract: the loop keeps what is left to look at.
use Rattle.std.proofs.Common.{◌-◌, ◌≤◌, ◌≡◌, not, ◌==◌}
use Rattle.words.specs.lists.Numbers.{any}
use Rattle.text.specs.frames.Frame.{field}
use Rattle.charts.specs.Check.{is_filled_from}
use Rattle.chart_check.proofs.chart_fields.filled_from.Given as goal

abbrev pub invariant-loop-k : goal.invariant-loop-k
invariant-loop-k l = (l.k ≤ 10) × (any (λ j. not (field l.records l.v j == 0)) l.k (10 - l.k) ≡ is_filled_from l.records l.v l.i)
