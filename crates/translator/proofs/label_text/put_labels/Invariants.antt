-- `translator::label_text::put_labels`: the labels of the nodes before v stand in the buffer.
use Rattle.translator.specs.inner.LabelBytes.{node_label_bytes}
use Rattle.translator.proofs.label_text.Puts.{Appended}
use Rattle.translator.proofs.label_text.put_labels.Given as goal

abbrev pub invariant-loop-v : goal.invariant-loop-v
invariant-loop-v l = Appended (node_label_bytes l.records) l.initial.out l.out l.at l.place l.n l.v
