-- `chart_rows::row_bounds::value_count`: two values for each number.
use Rattle.chart_rows.proofs.row_bounds.BoundLaws.{no-values, count-values, few-values}
use Rattle.std.proofs.Common.{arith}
use Rattle.chart_rows.proofs.row_bounds.value_count.Goals as goal

pub returns-then-mask-eq0-clause-most : goal.returns-then-mask-eq0-clause-most
returns-then-mask-eq0-clause-most c = no-values _ c.if-mask-eq0.true

pub returns-clause-most : goal.returns-clause-most
returns-clause-most c = count-values c.args.mask (omega (arith, c.ranges.mask))

pub returns-clause-small : goal.returns-clause-small
returns-clause-small c = few-values c.args.mask (omega (arith, c.ranges.mask))
