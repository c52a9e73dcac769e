use Rattle.std.proofs.Common.{refl, rules}
use Rattle.text.proofs.frame_reading.ReadFrame.{taken-none, taken-turn, taken-all}
use Rattle.text.proofs.frame_reading.read_digits.Goals as goal

pub loop-i-init : goal.loop-i-init
loop-i-init c = taken-none _ _ _ refl

pub loop-i-preserved : goal.loop-i-preserved
loop-i-preserved c =
    let done = c.loop-i.invariant in
    taken-turn _ _ _ _ _ done _ _ (search rules) c.digit-front.ensures c.digit-back.ensures

pub returns : goal.returns
returns c = taken-all _ _ _ _ _ c.loop-i.invariant (search rules)
