-- `places::chains::longest_chain`: by the masks of all nodes' calls.
use Rattle.std.proofs.Common.{◌∙◌}
use Rattle.chart_rows.proofs.chart_labels.ReadyLaws.{ready-facts}
use Rattle.places.proofs.chains.CallMasks.{longest-by}
use Rattle.places.proofs.chains.longest_chain.Goals as goal

pub returns : goal.returns
returns c = c.longest_by.ensures ∙ longest-by _ _ c.note_calls.ensures (ready-facts c.requires)
