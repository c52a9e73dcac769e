-- `translator::label_text::put_entries`: the entries of the schemes up to k stand in the buffer.
use Rattle.words.proofs.lists.Fills.{Pieces}
use Rattle.chart_rows.specs.inner.ChartContracts.{Begun}
use Rattle.translator.specs.inner.LabelBytes.{entry_bytes}
use Rattle.translator.proofs.entry_text.put_entries.Given as goal

abbrev pub invariant-loop-k : goal.invariant-loop-k
invariant-loop-k l = Begun l.records l.begins × Pieces (entry_bytes l.records) 10 l.initial.out l.out l.at l.n l.k
