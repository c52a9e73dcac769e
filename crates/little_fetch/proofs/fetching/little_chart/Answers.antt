use Rattle.std.proofs.Common.{arith, refl}
use Rattle.little_fetch.proofs.fetching.LittleChartCases.{past-total, number-low}
use Rattle.little_fetch.proofs.fetching.little_chart.Goals as goal

pub returns-then-total-number : goal.returns-then-total-number
returns-then-total-number c = past-total _ _ _ (omega (arith, c.total.ensures, c.if-total-number.true))

pub fetch-requires-clause-low : goal.fetch-requires-clause-low
fetch-requires-clause-low c = number-low _ _ _ (omega (arith, c.total.ensures, c.if-total-number.false)) refl
