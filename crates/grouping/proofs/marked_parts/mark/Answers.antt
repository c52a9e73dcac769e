-- `grouping::marked_parts::mark` meets its contract: one write for each label.
use Rattle.std.proofs.Common.{rules}
use Rattle.grouping.proofs.Labelled.{labelling-none, labelling-turn}
use Rattle.grouping.proofs.marked_parts.mark.Goals as goal

pub loop-l-init : goal.loop-l-init
loop-l-init c = labelling-none _ _ _ _

pub loop-l-preserved : goal.loop-l-preserved
loop-l-preserved c = search (rules, labelling-turn)
