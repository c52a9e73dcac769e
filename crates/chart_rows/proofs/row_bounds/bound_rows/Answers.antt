-- `chart_rows::row_bounds::bound_rows`: all numbers at first, then those of each node.
use Rattle.std.proofs.Common.{arith}
use Rattle.std.proofs.lemmas.Grind.{common_steps}
use Rattle.chart_rows.proofs.row_bounds.BoundLaws.{masked-full}
use Rattle.chart_rows.proofs.row_bounds.bound_rows.Goals as goal

pub mask_upward-requires : goal.mask_upward-requires
mask_upward-requires c = grind (arith, common_steps, masked-full)
