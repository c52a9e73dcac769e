-- `chart_rows::count_node`: by kind; a stopping condition and a function have two sides.
use Rattle.std.proofs.Common.{refl, sym, ◌∙◌, arith}
use Rattle.std.proofs.lemmas.Grind.{common_steps}
use Rattle.chart_rows.proofs.NumberLaws.{small-number}
use Rattle.chart_rows.proofs.RowSteps.{other-entered, rows-function, rows-condition, rows-other, count-nothing, count-rows}
use Rattle.chart_rows.proofs.rows.count_node.Goals as goal

pub returns-then-notes-v-lt2 : goal.returns-then-notes-v-lt2
returns-then-notes-v-lt2 c = count-nothing c.requires c.if-notes-v-lt2.true _

pub with_bit-own-requires : goal.with_bit-own-requires
with_bit-own-requires c =
    let node = c.requires in
    small-number (record { ready = node.noted.chart.ready; inside = node.inside; kind = sym c.field.ensures ∙ c.in-3.is })
    c.field-in-3.ensures

pub count_paths-requires : goal.count_paths-requires
count_paths-requires c =
    let node = c.requires in
    record { noted = node.noted; entered = other-entered node c.if-notes-v-lt2.false c.field-in-0-to-2.ensures; within = refl }

pub returns-in-3 : goal.returns-in-3
returns-in-3 c = grind (arith, common_steps, rows-condition, count-rows)

pub returns-in-0-to-2 : goal.returns-in-0-to-2
returns-in-0-to-2 c =
    count-rows c.requires
    (rows-other c.requires c.if-notes-v-lt2.false c.field.ensures c.in-0-to-2.if-this-lt3-own.true c.field-in-0-to-2.ensures)
    _ (c.count_paths.ensures _ _)

pub returns-in_default : goal.returns-in_default
returns-in_default c = grind (arith, common_steps, count-rows, rows-function)
