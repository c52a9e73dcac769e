-- `chart_check::finishing::finish_all` meets its contract: each call keeps what is finished.
use Rattle.std.proofs.Common.{◌≤◌, length}
use Rattle.charts.specs.inner.Finished.{Finished}
use Rattle.chart_check.proofs.finishing.finish_all.Given as goal

abbrev pub invariant-loop-v : goal.invariant-loop-v
invariant-loop-v l = record { inside : l.v ≤ length l.unfinished; finished : Finished l.records l.unfinished }
