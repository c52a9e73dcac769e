-- `chart_rows::count_paths`: a stop is one path, a new condition has the paths of its two sides.
use Rattle.std.proofs.Common.{refl, arith, rules}
use Rattle.std.proofs.lemmas.Grind.{common_steps}
use Rattle.chart_rows.proofs.PathCases.{arrived-inside, paths-end, paths-fork, side-0, side-1, count-stop, count-fork}
use Rattle.chart_rows.proofs.paths.+count_paths.Goals as goal

pub returns-then-i-gt15 : goal.returns-then-i-gt15
returns-then-i-gt15 t c = grind (arith, common_steps, paths-end, count-stop)

pub field-requires : goal.field-requires
field-requires t c = let inside = arrived-inside c.requires c.settle-v.ensures in search rules

pub count_paths-low-requires : goal.count_paths-low-requires
count_paths-low-requires t c =
    let k = paths-fork c.requires c.settle-v.ensures c.if-i-gt15.false c.with_bit-tested.ensures refl c.field.ensures refl in
    (omega (arith, k.falls0, c.decreases), side-0 c.requires k)

pub field-requires-2 : goal.field-requires-2
field-requires-2 t c = let inside = arrived-inside c.requires c.settle-v.ensures in search rules

pub overflow_sub-most : goal.overflow_sub-most
overflow_sub-most t c = omega (arith, c.count_paths-low.ensures 0 0)

pub count_paths-requires : goal.count_paths-requires
count_paths-requires t c =
    let k =
    paths-fork c.requires c.settle-v.ensures c.if-i-gt15.false c.with_bit-tested.ensures c.with_bit.ensures
    c.field.ensures c.field-2.ensures in
    (omega (arith, k.falls1, c.decreases), side-1 c.requires k)

pub overflow_add-result : goal.overflow_add-result
overflow_add-result t c = omega (arith, c.count_paths-low.ensures 0 0, c.count_paths.ensures 0 0, c.ranges.most)

pub returns : goal.returns
returns t c =
    let k =
    paths-fork c.requires c.settle-v.ensures c.if-i-gt15.false c.with_bit-tested.ensures c.with_bit.ensures
    c.field.ensures c.field-2.ensures in
    count-fork _ _ _ _ _ _ _ _ _ _ _ k c.count_paths-low.ensures c.count_paths.ensures
