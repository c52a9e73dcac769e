-- `little_fetch::little_seek::seek`: in the loop what is sought is sought among the charts of the numbers that are left. The measure is the
-- number of places from v on.
use Rattle.std.proofs.Common.{◌-◌}
use Rattle.little_fetch.proofs.little_seek.Turns.{Seeking}
use Rattle.little_fetch.proofs.little_seek.+seek.Given as goal

abbrev pub decreases-seek : goal.decreases-seek
decreases-seek l = l.n - l.v

abbrev pub invariant-loop-i : goal.invariant-loop-i
invariant-loop-i l = Seeking l.n l.v l.trail l.left l.past l.i l.rest

abbrev pub decreases-loop-i : goal.decreases-loop-i
decreases-loop-i l = l.past - l.i
