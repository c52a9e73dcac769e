use Rattle.std.proofs.Common.{ℕ, ◌+◌, refl, sym, subst, List, arith, rules}
use Rattle.words.proofs.graph.MarkedNodes.{Writing, writing-none, writing-few, writing-yes, writing-no, writing-done}
use Rattle.words.proofs.graph.list_marked.Goals.{then-marks-v, else-marks-v}
use Rattle.words.proofs.graph.list_marked.Goals as goal

pub loop-v-init : goal.loop-v-init
loop-v-init c = (writing-none _ _, search rules, refl)

pub bounds-list-count : goal.bounds-list-count
bounds-list-count c =
    let loop = c.loop-v in
    omega (arith, c.requires.room, loop.invariant.0.size, writing-few _ _ _ _ _ loop.invariant.0)

pub overflow_add-count : goal.overflow_add-count
overflow_add-count c = omega (arith, writing-few _ _ _ _ _ c.loop-v.invariant.0)

pub loop-v-preserved : goal.loop-v-preserved
loop-v-preserved c =
    let loop = c.loop-v in
    let marks = c.args.marks.now in
    let list = c.args.list.now in
    elim c.if-marks-v.branch [
      | then-marks-v w ↦ (
        subst (λ (k : ℕ). Writing marks list c.if-marks-v.list k (loop.v + 1)) (sym w.count-is)
            (subst (λ (xs : List ℕ). Writing marks list xs (loop.count + 1) (loop.v + 1)) (sym w.list-is)
            (writing-yes marks list loop.list loop.count loop.v loop.invariant.0
            (omega (arith, c.requires.few, writing-few _ _ _ _ _ loop.invariant.0)) w.if-marks-v.true)),
        search rules,
        refl,
      )
      | else-marks-v w ↦ (
        subst (λ (k : ℕ). Writing marks list c.if-marks-v.list k (loop.v + 1)) (sym w.count-is)
            (subst (λ (xs : List ℕ). Writing marks list xs loop.count (loop.v + 1)) (sym w.list-is)
            (writing-no marks list loop.list loop.count loop.v loop.invariant.0 w.if-marks-v.false)),
        search rules,
        refl,
      )
    ]

pub returns-clause-listed : goal.returns-clause-listed
returns-clause-listed c = (writing-done _ _ _ _ _ c.loop-v.invariant.0 (search rules)).0

pub returns-clause-counted : goal.returns-clause-counted
returns-clause-counted c = (writing-done _ _ _ _ _ c.loop-v.invariant.0 (search rules)).1
