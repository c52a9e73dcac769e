-- `chart_check::chart_handler::bad_marks` meets its contract.
use Rattle.std.proofs.Common.{◌∙◌, sym, subst, rules, arith}
use Rattle.std.proofs.lemmas.Grind.{common_steps}
use Rattle.chart_check.proofs.chart_handler.HandlerLoops.{Marking, marking-none, marking-all, marking-pass, marking-mark, marking-second}
use Rattle.chart_check.proofs.chart_handler.HandlerLoops.{marking-first}
use Rattle.chart_check.proofs.chart_handler.bad_marks.Goals as goal
use Rattle.chart_check.proofs.chart_handler.bad_marks.Goals.{then-marks_handler+else-marked+else-field-eq1, else-marks_handler}

pub loop-v-init : goal.loop-v-init
loop-v-init c = marking-none _ _ (search rules)

pub returns-then-marked : goal.returns-then-marked
returns-then-marked c = grind (arith, common_steps, marking-second, c.loop-v.invariant)

pub returns-then-field-eq1 : goal.returns-then-field-eq1
returns-then-field-eq1 c =
    marking-first _ _ _ _ c.loop-v.invariant (search rules) (sym c.marks_handler.ensures ∙ c.if-marks_handler.true) _ c.field.ensures
    c.if-field-eq1.true

pub loop-v-preserved : goal.loop-v-preserved
loop-v-preserved c =
    let d = c.loop-v.invariant in
    let t = c.marks_handler.ensures in
    elim c.if-marks_handler.branch [
      | then-marks_handler+else-marked+else-field-eq1 w ↦ subst (Marking _ _ _) (sym w.marked-is)
          (marking-mark _ _ _ _ d (search rules) (sym t ∙ w.if-marks_handler.true) _ w.field.ensures w.if-marked.false w.if-field-eq1.false)
      | else-marks_handler w ↦ subst (Marking _ _ _) (sym w.marked-is)
          (marking-pass _ _ _ _ d (search rules) (sym t ∙ w.if-marks_handler.false))
    ]

pub returns : goal.returns
returns c = marking-all _ _ _ _ c.loop-v.invariant (search rules)
