-- `image_check::image_faults::lowest_label` meets its contract: where neither test holds the search goes on.
use Rattle.std.proofs.Common.{arith, rules}
use Rattle.words.proofs.lists.Searches.{searching-next}
use Rattle.image_check.proofs.image_faults.FaultSearch.{second-tells, label-tests}
use Rattle.image_check.proofs.image_faults.lowest_label.Goals as goal

pub loop-f-preserved : goal.loop-f-preserved
loop-f-preserved c = (
  search rules,
  searching-next _ _ _ _ c.loop-f.invariant.1 (search rules)
      (second-tells c.stray_label.ensures c.if-stray_label.false c.bad_label.ensures c.if-bad_label.false
      (label-tests _ _ _ c.requires.first c.loop-f.invariant.0 (omega arith))),
)
