-- `chart_check::finishing::finish_from` meets its contract: the path goes on to a node that is unfinished, or back.
use Rattle.std.proofs.Common.{◌∙◌, sym, rules}
use Rattle.chart_check.proofs.finishing.FinishedCases.{standing-on, standing-back, standing-end}
use Rattle.chart_check.proofs.finishing.finish_from.Goals as goal

pub loop-left-preserved-in-Some : goal.loop-left-preserved-in-Some
loop-left-preserved-in-Some c =
    standing-on _ _ _ _ _ _ c.loop-left.invariant _ (sym c.next_unfinished.ensures ∙ c.in-Some.is) (search rules)

pub returns-then-depth-eq0 : goal.returns-then-depth-eq0
returns-then-depth-eq0 c = standing-end _ _ _ _ _ _ c.loop-left.invariant (sym c.next_unfinished.ensures ∙ c.in-None.is)

pub loop-left-preserved : goal.loop-left-preserved
loop-left-preserved c =
    standing-back _ _ _ _ _ _ c.loop-left.invariant (sym c.next_unfinished.ensures ∙ c.in-None.is) c.if-depth-eq0.false
