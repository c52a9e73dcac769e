-- `chart_rows::row_bounds::bound_node`: the bounds of one arc or of both.
use Rattle.chart_rows.proofs.row_bounds.BoundSteps.{bound-other, bound-both, bound-inside1}
use Rattle.chart_rows.proofs.row_bounds.bound_node.Goals as goal

pub returns-then-field-lt-CONDITION-clause-bounded : goal.returns-then-field-lt-CONDITION-clause-bounded
returns-then-field-lt-CONDITION-clause-bounded c =
    bound-other c.requires.noted_at c.requires.masked c.if-notes-v-lt2.false c.field.ensures c.field-2.ensures
    c.value_count-low.ensures.most c.if-field-lt-CONDITION.true

pub bounds-masks-field-2 : goal.bounds-masks-field-2
bounds-masks-field-2 c =
    bound-inside1 c.requires.noted_at c.requires.masked c.if-notes-v-lt2.false c.field.ensures c.field-2.ensures
    c.if-field-lt-CONDITION.false c.field-3.ensures

pub returns-clause-bounded : goal.returns-clause-bounded
returns-clause-bounded c =
    bound-both c.requires.noted_at c.requires.masked c.if-notes-v-lt2.false c.field.ensures c.field-2.ensures
    c.if-field-lt-CONDITION.false c.field-3.ensures c.value_count-low.ensures.most c.value_count.ensures.most
