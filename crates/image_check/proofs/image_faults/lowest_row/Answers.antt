-- `image_check::image_faults::lowest_row` meets its contract: where neither test holds the search goes on.
use Rattle.std.proofs.Common.{rules}
use Rattle.words.proofs.lists.Searches.{searching-found, searching-next}
use Rattle.image_check.proofs.image_faults.FaultSearch.{second-tells, row-tests}
use Rattle.image_check.proofs.image_faults.lowest_row.Goals as goal

pub returns-then-bad_row : goal.returns-then-bad_row
returns-then-bad_row c =
    searching-found _ _ _ _ c.loop-f.invariant.1 (search rules)
    (second-tells c.stray_row.ensures c.if-stray_row.false c.bad_row.ensures c.if-bad_row.true
    (row-tests _ _ _ c.requires.first c.loop-f.invariant.0))

pub loop-f-preserved : goal.loop-f-preserved
loop-f-preserved c = (
  search rules,
  searching-next _ _ _ _ c.loop-f.invariant.1 (search rules)
      (second-tells c.stray_row.ensures c.if-stray_row.false c.bad_row.ensures c.if-bad_row.false
      (row-tests _ _ _ c.requires.first c.loop-f.invariant.0)),
)
