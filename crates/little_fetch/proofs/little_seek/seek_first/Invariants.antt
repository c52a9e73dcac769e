-- `little_fetch::little_seek::seek_first`: what is sought is sought among the charts of the numbers that are left.
use Rattle.little_fetch.specs.inner.Trails.{start}
use Rattle.little_fetch.proofs.little_seek.Turns.{Seeking}
use Rattle.little_fetch.proofs.little_seek.seek_first.Given as goal

abbrev pub invariant-loop-i : goal.invariant-loop-i
invariant-loop-i l = Seeking l.n 0 start l.number l.past l.i l.rest
