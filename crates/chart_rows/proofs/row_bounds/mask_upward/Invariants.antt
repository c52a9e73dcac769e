-- `chart_rows::row_bounds::mask_upward`: each node's mask goes into its place, and the others stay.
use Rattle.chart_rows.proofs.row_bounds.BoundLaws.{Masking}
use Rattle.chart_rows.proofs.row_bounds.mask_upward.Given as goal

abbrev pub invariant-loop-v : goal.invariant-loop-v
invariant-loop-v l = Masking l.records l.fn.masks l.masks l.v
