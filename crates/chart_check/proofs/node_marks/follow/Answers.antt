-- `chart_check::node_marks::follow`: the second arc's node is listed behind the first one's.
use Rattle.words.proofs.graph.Enlisted.{enlist-counted}
use Rattle.chart_check.proofs.node_marks.follow.Goals as goal

pub enlist-requires-clause-counted : goal.enlist-requires-clause-counted
enlist-requires-clause-counted c = enlist-counted _ _ _ c.enlist-first.ensures c.requires.listed_room.listed.counted
