-- `chart_check::node_marks::join`: once the list is followed to its end, all are reached.
use Rattle.std.proofs.Common.{arith, ◌∙◌, refl, slice_index}
use Rattle.std.proofs.lemmas.Grind.{common_steps}
use Rattle.words.proofs.graph.Marking.{joining-first, joining-done}
use Rattle.words.proofs.graph.Lists.{followed-none, followed-more, followed-closed, joining-more}
use Rattle.chart_check.proofs.node_marks.MarkCases.{turn-lent, turn-few, lent-enlisted}
use Rattle.chart_check.proofs.node_marks.join.Goals as goal

pub loop-i-init : goal.loop-i-init
loop-i-init c = record {
  inside = omega arith;
  same = refl;
  joining = joining-first _ _ _ c.requires.long;
  listed = c.requires.listed;
  followed = followed-none _ _ _ _;
}

pub bounds-list-i : goal.bounds-list-i
bounds-list-i c = omega (arith, turn-few _ _ _ _ _ _ _ _ c.loop-i.invariant, c.loop-i.invariant.same, c.requires.room)

pub overflow_add-i : goal.overflow_add-i
overflow_add-i c = omega (arith, turn-few _ _ _ _ _ _ _ _ c.loop-i.invariant)

pub loop-i-smaller : goal.loop-i-smaller
loop-i-smaller c = omega (arith, turn-few _ _ _ _ _ _ _ _ c.loop-i.invariant)

pub loop-i-preserved : goal.loop-i-preserved
loop-i-preserved c =
    let inv = c.loop-i.invariant in
    let left = lent-enlisted _ _ _ _ (turn-lent _ _ _ _ _ _ _ _ c.requires inv) _ _ c.follow-end.ensures in
    record {
      inside = omega (arith, left.longer.more);
      same = c.follow-end.auto.list ∙ inv.same;
      joining = joining-more _ _ _ _ _ (slice_index c.loop-i.list c.loop-i.i) c.requires.long
          (inv.listed.are c.loop-i.i (omega arith)) left.marks inv.joining;
      listed = left.listed;
      followed = followed-more _ _ c.loop-i.marks _ c.loop-i.list _ c.loop-i.i c.loop-i.end _ inv.joining.long
          (omega arith) left.longer left.marks inv.followed;
    }

pub returns : goal.returns
returns c = grind (arith, common_steps, joining-done, followed-closed)
