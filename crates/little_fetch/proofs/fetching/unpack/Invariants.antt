-- `little_fetch::fetching::unpack`: the records from place v on stand, those below are in the numbers that are left.
use Rattle.little_fetch.proofs.fetching.Unpacking.{Unpacking}
use Rattle.little_fetch.proofs.fetching.unpack.Given as goal

abbrev pub invariant-loop-v : goal.invariant-loop-v
invariant-loop-v l = Unpacking l.fn.records l.numbers l.n l.records l.v l.rest

abbrev pub decreases-loop-v : goal.decreases-loop-v
decreases-loop-v l = l.v
