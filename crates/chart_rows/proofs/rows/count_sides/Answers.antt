-- `chart_rows::count_sides`: the paths of the 0 side, and those of the 1 side up to what is left of the limit.
use Rattle.std.proofs.Common.{refl, arith}
use Rattle.std.proofs.lemmas.Grind.{common_steps}
use Rattle.chart_rows.proofs.RowSteps.{side-entered0, side-entered1, count-sides}
use Rattle.chart_rows.proofs.rows.count_sides.Goals as goal

pub count_paths-low-requires : goal.count_paths-low-requires
count_paths-low-requires c =
    let asked = c.requires in
    record { noted = asked.noted; entered = side-entered0 asked c.field.ensures; within = refl }

pub overflow_sub-most : goal.overflow_sub-most
overflow_sub-most c = omega (arith, c.count_paths-low.ensures 0 0)

pub count_paths-requires : goal.count_paths-requires
count_paths-requires c =
    let asked = c.requires in
    record { noted = asked.noted; entered = side-entered1 asked c.field-2.ensures; within = asked.within }

pub overflow_add-result : goal.overflow_add-result
overflow_add-result c =
    omega
    (arith, c.count_paths-low.ensures 0 0, c.count_paths.ensures 0 0, c.ranges.most)

pub returns : goal.returns
returns c = grind (arith, common_steps, count-sides)
