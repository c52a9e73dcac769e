-- `grouping::first_classes::first_classes` meets its contract: the classes of the labels before l stand in the buffer, and these are linked.
use Rattle.tables.specs.Table.{table_image}
use Rattle.grouping.specs.inner.Links.{Linked, Headed}
use Rattle.grouping.proofs.Rounds.{has_same_fields_at}
use Rattle.grouping.proofs.TableRounds.{FillingClasses}
use Rattle.grouping.proofs.first_classes.first_classes.Given as goal

abbrev pub invariant-loop-l : goal.invariant-loop-l
invariant-loop-l l = record {
  filled : FillingClasses l.table.bytes.now (has_same_fields_at (table_image l.table.bytes.now)) l.fn.classes l.classes l.table.last l.l;
  linked : Linked l.table.bytes.now l.l l.links;
  headed : Headed l.table.bytes.now l.l l.heads;
}
