-- `chart_rows::chart_labels::label_nodes` meets its contract:
-- the labels of the nodes passed stand in the buffer, and those of their own are counted.
use Rattle.std.proofs.Common.{inl, inr, rules}
use Rattle.chart_rows.proofs.chart_labels.LabelSteps.{labelling-start, labelling-on}
use Rattle.chart_rows.proofs.chart_labels.label_nodes.Goals.{else-label-ge2, then-label-ge2}
use Rattle.chart_rows.proofs.chart_labels.label_nodes.Goals as goal

pub loop-v-init : goal.loop-v-init
loop-v-init c = labelling-start _ _

pub loop-v-preserved : goal.loop-v-preserved
loop-v-preserved c =
    labelling-on _ _ _ _ _ c.requires.room c.loop-v.invariant (search rules) _
    c.label_of-label.ensures _ (elim c.if-label-ge2.branch
    [ then-label-ge2 w ↦ inl (w.if-label-ge2.true, w.own-is) | else-label-ge2 w ↦ inr (w.if-label-ge2.false, w.own-is) ])
