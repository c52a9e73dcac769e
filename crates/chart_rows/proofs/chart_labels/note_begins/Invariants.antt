-- `chart_rows::chart_labels::note_begins`: of each scheme with a Begin from node v on, the lowest is noted, and no other place is written.
use Rattle.text.specs.frames.Frame.{size}
use Rattle.chart_rows.proofs.chart_labels.NodeSteps.{Noting}
use Rattle.chart_rows.proofs.chart_labels.note_begins.Given as goal

abbrev pub invariant-loop-v : goal.invariant-loop-v
invariant-loop-v l = Noting l.records l.fn.begins l.begins (size l.records) l.v

abbrev pub decreases-loop-v : goal.decreases-loop-v
decreases-loop-v l = l.v
