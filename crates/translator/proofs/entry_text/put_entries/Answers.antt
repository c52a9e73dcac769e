use Rattle.std.proofs.Common.{refl, rules}
use Rattle.words.proofs.lists.Fills.{pieces-none}
use Rattle.chart_rows.proofs.chart_labels.NodeSteps.{begun}
use Rattle.translator.proofs.label_text.LabelPuts.{entries-turn}
use Rattle.translator.proofs.entry_text.put_entries.Goals as goal

pub loop-k-init : goal.loop-k-init
loop-k-init c = (begun _ c.requires.schemed.chart.ready _ _ (search rules) c.note_begins.ensures, pieces-none _ _ _ _ _)

pub loop-k-preserved : goal.loop-k-preserved
loop-k-preserved c = (
  c.loop-k.invariant.0,
  entries-turn _ _ _ _ _ _ _ _ _ c.loop-k.invariant.1 (search rules) refl c.requires.room c.put_entry.auto.out
      c.entry_of-label.ensures c.put_entry.ensures,
)
