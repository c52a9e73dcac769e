use Rattle.words.proofs.lists.Arrays.{filled-all}
use Rattle.std.proofs.Common.{rules}
use Rattle.text.proofs.frame_reading.values_of.Goals as goal

pub returns : goal.returns
returns c = filled-all _ _ _ _ _ c.loop-k.invariant (search rules)
