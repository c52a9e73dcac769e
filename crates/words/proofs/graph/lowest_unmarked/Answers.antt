use Rattle.words.proofs.lists.Searches.{searching-found, searching-next, searching-over}
use Rattle.std.proofs.Common.{rules}
use Rattle.words.proofs.graph.lowest_unmarked.Goals as goal

pub returns-then-not-marks-u : goal.returns-then-not-marks-u
returns-then-not-marks-u c = searching-found _ _ _ _ c.loop-u.invariant (search rules) c.if-not-marks-u.true-raw

pub loop-u-preserved : goal.loop-u-preserved
loop-u-preserved c = searching-next _ _ _ _ c.loop-u.invariant (search rules) c.if-not-marks-u.false-raw

pub returns : goal.returns
returns c = searching-over _ _ _ _ c.loop-u.invariant (search rules)
