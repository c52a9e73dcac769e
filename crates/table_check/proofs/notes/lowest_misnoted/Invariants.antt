-- `table_check::notes::lowest_misnoted` meets its contract: each search for rows goes on where that for the label before it ended.
use Rattle.std.proofs.Common.{◌-◌}
use Rattle.table_check.proofs.NotingCases.{Noting}
use Rattle.table_check.proofs.notes.lowest_misnoted.Given as goal

abbrev pub invariant-loop-f : goal.invariant-loop-f
invariant-loop-f l = Noting l.table l.n l.f l.end

abbrev pub decreases-loop-f : goal.decreases-loop-f
decreases-loop-f l = l.rows - l.f
