use Rattle.std.proofs.Common.{ℕ, ◌-◌, ◌<◌, List, ◌≡◌, arith, rules}
use Rattle.text.specs.frames.Frame.{size}
use Rattle.charts.specs.Chart.{scheme}
use Rattle.chart_rows.specs.inner.ChartContracts.{Ready}
use Rattle.chart_rows.proofs.chart_labels.ReadyLaws.{ready-facts}
use Rattle.chart_rows.proofs.chart_labels.NodeSteps.{noting-start, noting-other, noting-begin, noting-done}
use Rattle.chart_rows.proofs.chart_labels.note_begins.Goals as goal

-- the scheme of a Begin
small : (b : List ℕ) → Ready b → (v : ℕ) → v < size b → (s : ℕ) → s ≡ scheme b v → s < 17
small b ready v h s e = let known = ready-facts ready in omega (arith, (known.owned v h).1, known.most)

pub loop-v-init : goal.loop-v-init
loop-v-init c = noting-start _ _ (search rules)

pub bounds-begins-scheme : goal.bounds-begins-scheme
bounds-begins-scheme c =
    omega (arith, small _ c.requires (c.loop-v.v - 1) (omega arith) _ c.field-scheme.ensures, c.loop-v.invariant.long)

pub loop-v-preserved-then-field-eq-BEGIN : goal.loop-v-preserved-then-field-eq-BEGIN
loop-v-preserved-then-field-eq-BEGIN c =
    noting-begin _ _ _ _ _ c.loop-v.invariant _ (omega arith) _ _ c.field.ensures c.if-field-eq-BEGIN.true c.field-scheme.ensures
    (small _ c.requires (c.loop-v.v - 1) (omega arith) _ c.field-scheme.ensures)

pub loop-v-preserved : goal.loop-v-preserved
loop-v-preserved c = noting-other _ _ _ _ _ c.loop-v.invariant _ (omega arith) _ c.field.ensures c.if-field-eq-BEGIN.false

pub returns : goal.returns
returns c = noting-done _ c.requires _ _ (search rules) _ _ c.loop-v.invariant (omega arith)
