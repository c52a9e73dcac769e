-- `chart_rows::number_nodes`: the numbers of the nodes before v stand behind the labels, which stay.
use Rattle.words.proofs.lists.Fills.{ValuesFrom}
use Rattle.text.specs.frames.Frame.{size}
use Rattle.chart_rows.specs.inner.NodeRows.{tested_number}
use Rattle.chart_rows.proofs.NumberLaws.{Numbering}
use Rattle.chart_rows.proofs.numbers.number_nodes.Given as goal

abbrev pub invariant-loop-v : goal.invariant-loop-v
invariant-loop-v l = record {
  noted : Numbering l.records l.fn.notes l.notes l.v;
  written : ValuesFrom (tested_number l.records) l.fn.notes l.notes 256 (size l.records) l.v;
}
