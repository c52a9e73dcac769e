-- `chart_rows::row_bounds::mask_of`: a condition's arcs lead to nodes.
use Rattle.chart_rows.proofs.row_bounds.BoundLaws.{mask-side0, mask-side1}
use Rattle.chart_rows.proofs.row_bounds.mask_of.Goals as goal

pub bounds-masks-field : goal.bounds-masks-field
bounds-masks-field c = mask-side0 c.requires.noted_at c.requires.masked c.if-i-gt15.false c.field.ensures

pub bounds-masks-field-2 : goal.bounds-masks-field-2
bounds-masks-field-2 c = mask-side1 c.requires.noted_at c.requires.masked c.if-i-gt15.false c.field-2.ensures
