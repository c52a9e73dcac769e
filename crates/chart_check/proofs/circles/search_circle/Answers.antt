-- `chart_check::circles::search_circle` meets its contract: a node is passed because it is finished or on no circle.
use Rattle.std.proofs.Common.{sym, ◌∙◌, rules}
use Rattle.words.proofs.lists.Searches.{searching-next}
use Rattle.chart_check.proofs.circles.search_circle.Goals as goal
use Rattle.chart_check.proofs.circles.search_circle.Goals.{else-unfinished-v-via-then-unfinished-v+else-on_circle}
use Rattle.chart_check.proofs.circles.search_circle.Goals.{else-unfinished-v-via-else-unfinished-v}

pub loop-v-preserved : goal.loop-v-preserved
loop-v-preserved c =
    let next = searching-next _ _ _ _ c.loop-v.invariant.search (search rules) in
    elim c.else-unfinished-v.branch [
      | else-unfinished-v-via-then-unfinished-v+else-on_circle w ↦
          record { same = search rules; search = next (sym w.on_circle.ensures ∙ w.if-on_circle.false) }
      | else-unfinished-v-via-else-unfinished-v w ↦
          record { same = search rules; search = next (c.requires.finished.off _ (search rules) w.if-unfinished-v.false) }
    ]
