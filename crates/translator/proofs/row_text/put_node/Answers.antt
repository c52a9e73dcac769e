-- `translator::row_text::put_node`: by kind, as the rows are counted.
use Rattle.std.proofs.Common.{refl, sym, ◌∙◌, arith}
use Rattle.std.proofs.lemmas.Grind.{common_steps}
use lib.Bits.{and_self}
use Rattle.chart_rows.proofs.NumberLaws.{small-number}
use Rattle.chart_rows.proofs.RowSteps.{other-entered}
use Rattle.translator.proofs.label_text.Puts.{nothing-put, room-as, done-as}
use Rattle.translator.proofs.row_text.NodePuts.{node-none, node-function, node-condition, node-other}
use Rattle.translator.proofs.row_text.put_node.Goals as goal

pub returns-then-from-lt2 : goal.returns-then-from-lt2
returns-then-from-lt2 c = nothing-put _ _ _ (node-none c.requires.noted_at c.if-from-lt2.true)

pub with_bit-own-requires : goal.with_bit-own-requires
with_bit-own-requires c =
    let node = c.requires.noted_at in
    small-number (record { ready = node.noted.chart.ready; inside = node.inside; kind = sym c.field.ensures ∙ c.in-3.is })
    c.field-in-3.ensures

pub put_sides-requires : goal.put_sides-requires
put_sides-requires c =
    let node = c.requires.noted_at in
    let text = node-condition node c.if-from-lt2.false c.field.ensures c.in-3.is c.field-in-3.ensures c.with_bit-own.ensures in record {
      sides_at = record { noted = node.noted; inside = node.inside; two = omega (arith, c.field.ensures, c.in-3.is); within = and_self _ };
      room = room-as _ _ _ _ text c.requires.room;
    }

pub put_paths-requires : goal.put_paths-requires
put_paths-requires c =
    let node = c.requires.noted_at in
    let text = node-other node c.if-from-lt2.false c.field.ensures c.in-0-to-2.if-this-lt3-own.true c.field-in-0-to-2.ensures in record {
      path_at = record { noted = node.noted; entered = other-entered node c.if-from-lt2.false c.field-in-0-to-2.ensures; within = refl };
      room = room-as _ _ _ _ text c.requires.room;
    }

pub put_sides-requires-in_default : goal.put_sides-requires-in_default
put_sides-requires-in_default c =
    let node = c.requires.noted_at in
    let function = c.in_default.if-this-lt3-own.false in
    let text = node-function node c.if-from-lt2.false c.field.ensures function c.in_default.in_default-own.rest.1 in record {
      sides_at = record { noted = node.noted; inside = node.inside; two = omega (arith, c.field.ensures, function); within = refl };
      room = room-as _ _ _ _ text c.requires.room;
    }

pub returns-in-3 : goal.returns-in-3
returns-in-3 c = grind (arith, common_steps, node-condition, done-as)

pub returns-in-0-to-2 : goal.returns-in-0-to-2
returns-in-0-to-2 c = grind (arith, common_steps, node-other, done-as)

pub returns-in_default : goal.returns-in_default
returns-in_default c =
    let function = c.in_default.if-this-lt3-own.false in
    done-as _ _ _ _ _ _ (node-function c.requires.noted_at c.if-from-lt2.false c.field.ensures function c.in_default.in_default-own.rest.1)
    c.put_sides-in_default.ensures
