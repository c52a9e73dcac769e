-- `tables::preparing::note_rows` meets its contract: the search for a label goes on where that for the label before it ended.
use Rattle.tables.proofs.NotingCases.{Notes}
use Rattle.tables.proofs.preparing.note_rows.Given as goal

abbrev pub invariant-loop-l : goal.invariant-loop-l
invariant-loop-l l = Notes l.fn.table l.table l.f l.l
