-- `places::chains::longest_by`: the rounds begin with no call, and each has one call more.
use Rattle.std.proofs.Common.{rules}
use Rattle.places.proofs.chains.CallMasks.{round-first, round-next}
use Rattle.places.proofs.chains.longest_by.Goals as goal

pub loop-schemes-init : goal.loop-schemes-init
loop-schemes-init c = round-first _

pub loop-schemes-preserved : goal.loop-schemes-preserved
loop-schemes-preserved c = round-next _ c.loop-schemes.invariant c.called_by-ends.ensures (search rules) c.if-ends-eq0.false
