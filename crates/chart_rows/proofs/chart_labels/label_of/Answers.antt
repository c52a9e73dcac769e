-- `chart_rows::chart_labels::label_of` meets its contract: there are few labels.
use Rattle.std.proofs.Common.{arith, sym, ◌∙◌}
use Rattle.chart_rows.proofs.chart_labels.LabelSteps.{own-small}
use Rattle.chart_rows.proofs.chart_labels.label_of.Goals as goal

pub overflow_add-result : goal.overflow_add-result
overflow_add-result c =
    let node = c.requires.beside in
    omega (arith, own-small _ node.ready _ _ node.inside c.requires.own_before (sym c.is_numbered.ensures ∙ c.if-is_numbered.true))

pub overflow_cast-result : goal.overflow_cast-result
overflow_cast-result c =
    let node = c.requires.beside in
    omega (arith, own-small _ node.ready _ _ node.inside c.requires.own_before (sym c.is_numbered.ensures ∙ c.if-is_numbered.true))
