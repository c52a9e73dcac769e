-- `chart_rows::settle`: each turn passes one condition, and the rank falls.
use Rattle.std.proofs.Common.{arith}
use Rattle.std.proofs.lemmas.Grind.{common_steps}
use Rattle.chart_rows.proofs.Settled.{number-low, passing-falls, passing-on, passing-done}
use Rattle.chart_rows.proofs.paths.settle.Goals as goal

pub noted_bit-requires-clause-low_number : goal.noted_bit-requires-clause-low_number
noted_bit-requires-clause-low_number c = number-low c.requires.noted c.loop-side.invariant

pub noted_bit-side-requires-clause-low_number : goal.noted_bit-side-requires-clause-low_number
noted_bit-side-requires-clause-low_number c = number-low c.requires.noted c.loop-side.invariant

pub loop-side-smaller : goal.loop-side-smaller
loop-side-smaller c =
    passing-falls c.requires.noted c.loop-side.invariant (omega (arith, c.ranges.care)) c.noted_bit.ensures c.loop-side-test.true
    c.noted_bit-side.ensures c.field-at.ensures

pub loop-side-preserved : goal.loop-side-preserved
loop-side-preserved c = grind (arith, common_steps, passing-on, c.loop-side.invariant)

pub returns : goal.returns
returns c =
    passing-done c.requires.noted c.loop-side.invariant (omega (arith, c.ranges.care)) c.noted_bit.ensures c.loop-side-test.false
