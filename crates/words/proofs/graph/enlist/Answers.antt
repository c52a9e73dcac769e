-- `words::graph::enlist` meets its contract: a mark that is there already, or out of range, changes nothing.
use Rattle.std.proofs.Common.{sym, arith, rules}
use Rattle.words.proofs.graph.Enlisted.{mark-new, mark-out, mark-there, list-room, enlist-new, enlist-same}
use Rattle.words.proofs.graph.enlist.Goals as goal

pub returns-then-marks-v : goal.returns-then-marks-v
returns-then-marks-v c = sym (enlist-same _ _ (mark-out c.args.marks.now _ c.if-marks-v.true))

pub returns-then-marks-v-2 : goal.returns-then-marks-v-2
returns-then-marks-v-2 c = sym (enlist-same _ _ (mark-there c.args.marks.now c.args.u c.if-marks-v-2.true))

pub bounds-list-count : goal.bounds-list-count
bounds-list-count c =
    let marks = c.args.marks.now in
    let u = c.args.u in
    omega (arith, c.requires.room, list-room marks u _ c.requires.counted (mark-new marks u (search rules) c.if-marks-v-2.false))

pub overflow_add-result : goal.overflow_add-result
overflow_add-result c =
    let marks = c.args.marks.now in
    let u = c.args.u in
    omega (arith, list-room marks u _ c.requires.counted (mark-new marks u (search rules) c.if-marks-v-2.false))

pub returns : goal.returns
returns c = sym (enlist-new _ _ (mark-new c.args.marks.now c.args.u (search rules) c.if-marks-v-2.false))
