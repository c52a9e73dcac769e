-- `places::chains::called_by`: the masks of the schemes below g are joined.
use Rattle.std.proofs.Common.{refl, ◌∙◌, arith, rules}
use Rattle.places.specs.inner.Masks.{called_by}
use Rattle.places.proofs.chains.CallMasks.{called-yes, called-no}
use Rattle.places.proofs.chains.called_by.Goals.{else-set-g-eq1, then-set-g-eq1}
use Rattle.places.proofs.chains.called_by.Goals as goal

pub loop-g-init : goal.loop-g-init
loop-g-init c = (omega arith, unfold called_by in refl)

pub loop-g-preserved : goal.loop-g-preserved
loop-g-preserved c =
    let held = c.loop-g.invariant in (
      search rules,
      elim c.if-set-g-eq1.branch [
        | then-set-g-eq1 w ↦ w.called-is ∙ called-yes _ _ _ _ held.1 w.if-set-g-eq1.true
        | else-set-g-eq1 w ↦
            w.called-is ∙ called-no _ _ _ _ held.1 w.if-set-g-eq1.false
      ],
    )
