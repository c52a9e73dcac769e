use Rattle.translator.proofs.label_text.Puts.{appended-start, appended-room, appended-on}
use Rattle.std.proofs.Common.{rules}
use Rattle.translator.proofs.label_text.put_labels.Goals as goal

pub loop-v-init : goal.loop-v-init
loop-v-init c = appended-start _ _ _ _

pub put_node_label-place-requires : goal.put_node_label-place-requires
put_node_label-place-requires c =
    record {
      at_node = record { chart = c.requires.charted; inside = search rules };
      room = appended-room _ _ _ _ _ _ _ c.loop-v.invariant (search rules) c.requires.room;
    }

pub loop-v-preserved : goal.loop-v-preserved
loop-v-preserved c =
    appended-on _ _ _ _ _ _ _ c.loop-v.invariant (search rules) c.requires.room _ _ c.put_node_label-place.ensures
