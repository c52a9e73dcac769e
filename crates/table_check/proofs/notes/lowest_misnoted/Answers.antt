-- `table_check::notes::lowest_misnoted` meets its contract: each search for rows goes on where that for the label before it ended.
use Rattle.table_check.proofs.NotingCases.{noting-first, noting-found, noting-next, noting-over}
use Rattle.std.proofs.Common.{rules}
use Rattle.table_check.proofs.notes.lowest_misnoted.Goals as goal

pub loop-f-init : goal.loop-f-init
loop-f-init c = noting-first c.requires.all_frames c.requires.rows_inside c.labels_from-labels.ensures c.rows_from-rows.ensures

pub returns-then-low_pair-end : goal.returns-then-low_pair-end
returns-then-low_pair-end c =
    noting-found c.loop-f.invariant (search rules) c.skip_below-end.ensures (search rules) c.low_pair.ensures (search rules)

pub loop-f-preserved : goal.loop-f-preserved
loop-f-preserved c =
    noting-next c.loop-f.invariant (search rules) c.skip_below-end.ensures (search rules) c.low_pair.ensures (search rules)

pub returns : goal.returns
returns c = noting-over c.loop-f.invariant (search rules)
