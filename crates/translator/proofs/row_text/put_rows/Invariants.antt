-- `translator::row_text::put_rows`: the rows of the nodes before v stand in the buffer.
use Rattle.translator.specs.inner.NodeBytes.{node_rows_bytes}
use Rattle.translator.proofs.label_text.Puts.{Appended}
use Rattle.translator.proofs.row_text.put_rows.Given as goal

abbrev pub invariant-loop-v : goal.invariant-loop-v
invariant-loop-v l = Appended (node_rows_bytes l.records) l.initial.out l.out l.at l.place l.n l.v
