-- `text::reading::read_frames` meets its contract: what is known of the frames from f on is known of all.
use Rattle.std.proofs.Common.{◌≡◌, ◌-◌, ◌∙◌, sym, rules, if◌then◌else◌}
use Rattle.std.proofs.lemmas.Bool.{cond-true, cond-false}
use Rattle.text.proofs.reading.ReadLoops.{frames-none, frames-turn, frames-all}
use Rattle.text.proofs.reading.read_frames.Goals as goal
use Rattle.text.proofs.reading.read_frames.Goals.{then-faults, else-faults}

pub loop-f-init : goal.loop-f-init
loop-f-init c = frames-none _ _ _

pub loop-f-preserved-then-faults-2 : goal.loop-f-preserved-then-faults-2
loop-f-preserved-then-faults-2 c =
    let form : c.if-faults.form ≡ (if c.read_frame-faults.result.form then c.loop-f.f - 1 else c.loop-f.form) =
    elim c.if-faults.branch [
      | then-faults w ↦ w.form-is ∙ sym (cond-true _ _ _ w.if-faults.true)
      | else-faults w ↦ w.form-is ∙ sym
          (cond-false _ _ _ w.if-faults.false)
    ] in
    frames-turn _ _ _ _ _ _ _ c.loop-f.invariant _ _ _ _ (search rules) (search rules) c.read_frame-faults.ensures (search rules)
    form (sym (cond-true _ _ _ c.if-faults-2.true))

pub loop-f-preserved : goal.loop-f-preserved
loop-f-preserved c =
    let form : c.if-faults.form ≡ (if c.read_frame-faults.result.form then c.loop-f.f - 1 else c.loop-f.form) =
    elim c.if-faults.branch [
      | then-faults w ↦ w.form-is ∙ sym (cond-true _ _ _ w.if-faults.true)
      | else-faults w ↦ w.form-is ∙ sym
          (cond-false _ _ _ w.if-faults.false)
    ] in
    frames-turn _ _ _ _ _ _ _ c.loop-f.invariant _ _ _ _ (search rules) (search rules) c.read_frame-faults.ensures (search rules)
    form (sym (cond-false _ _ _ c.if-faults-2.false))

pub returns : goal.returns
returns c = frames-all _ _ _ _ _ _ _ c.loop-f.invariant (search rules)
