-- `chart_rows::row_bounds::mask_downward`: each node's mask goes into its place, and the others stay.
use Rattle.chart_rows.proofs.row_bounds.BoundLaws.{Masking}
use Rattle.chart_rows.proofs.row_bounds.mask_downward.Given as goal

abbrev pub invariant-loop-v : goal.invariant-loop-v
invariant-loop-v l = Masking l.records l.fn.masks l.masks l.v

abbrev pub decreases-loop-v : goal.decreases-loop-v
decreases-loop-v l = l.v
