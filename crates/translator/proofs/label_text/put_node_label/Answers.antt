-- `translator::label_text::put_node_label`: nothing, or one frame.
use Rattle.translator.proofs.label_text.Puts.{nothing-put}
use Rattle.translator.proofs.label_text.LabelPuts.{label-none, label-room, label-done}
use Rattle.translator.proofs.label_text.put_node_label.Goals as goal

pub returns-then-label-lt2 : goal.returns-then-label-lt2
returns-then-label-lt2 c = nothing-put _ _ _ (label-none c.requires.at_node c.if-label-lt2.true)

pub put_label-requires : goal.put_label-requires
put_label-requires c =
    record {
      inner = record { ready = c.requires.at_node.chart.ready; inside = c.requires.at_node.inside };
      room = label-room c.requires.at_node c.if-label-lt2.false _ c.requires.room;
    }

pub returns : goal.returns
returns c = label-done c.requires.at_node c.if-label-lt2.false c.put_label.ensures
