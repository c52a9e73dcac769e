-- `covering::is_uneven` meets its contract: the rows of a label begin where those of the label before end.
use Rattle.covering.proofs.LoopCases.{trying-start, end-after, end-inside, end-near, trying-hit, trying-on, trying-over}
use Rattle.std.proofs.Common.{rules}
use Rattle.covering.proofs.is_uneven.Goals as goal

pub loop-l-init : goal.loop-l-init
loop-l-init c = search (rules, trying-start)

pub uneven_rows-requires : goal.uneven_rows-requires
uneven_rows-requires c = search (rules, end-after, end-inside, end-near)

pub returns-then-uneven_rows : goal.returns-then-uneven_rows
returns-then-uneven_rows c =
    search (rules, trying-hit)

pub loop-l-preserved : goal.loop-l-preserved
loop-l-preserved c =
    trying-on _ _ _ _ c.loop-l.invariant (search rules) _ c.rows_end.ensures _ c.unwrap_or-end.ensures _ c.uneven_rows.ensures c.if-uneven_rows.false

pub returns : goal.returns
returns c = trying-over _ _ _ _ c.loop-l.invariant (search rules)
