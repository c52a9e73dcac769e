-- `rows::listing::fill_listing` meets its contract: the labels so far stand in both buffers.
use Rattle.std.proofs.Common.{◌+◌}
use Rattle.image.specs.Decode.{last_label}
use Rattle.tables.specs.Table.{table_image}
use Rattle.rows.proofs.listing.FillCases.{FillingRows}
use Rattle.rows.proofs.listing.fill_listing.Given as goal

abbrev pub invariant-loop-l : goal.invariant-loop-l
invariant-loop-l l = FillingRows (table_image l.table.bytes.now) (last_label l.table.bytes.now + 1) l.initial.firsts l.initial.counts l.firsts l.counts l.l
