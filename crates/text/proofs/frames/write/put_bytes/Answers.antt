use Rattle.std.proofs.Common.{refl, rules}
use Rattle.words.proofs.lists.Fills.{values-none, values-turn, values-list}
use Rattle.text.proofs.frames.write.put_bytes.Goals as goal

pub loop-k-init : goal.loop-k-init
loop-k-init c = values-none _ _ _ _

pub loop-k-preserved : goal.loop-k-preserved
loop-k-preserved c = values-turn _ _ _ _ _ _ _ (search rules) c.loop-k.invariant (search rules) refl

pub returns : goal.returns
returns c = values-list _ _ _ _ _ c.loop-k.invariant (search rules)
