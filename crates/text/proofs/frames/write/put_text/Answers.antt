use Rattle.std.proofs.Common.{refl, rules}
use Rattle.words.proofs.lists.Fills.{pieces-none}
use Rattle.text.proofs.frames.TextLoops.{text-turn, text-end}
use Rattle.text.proofs.frames.write.put_text.Goals as goal

pub loop-f-init : goal.loop-f-init
loop-f-init c = pieces-none _ _ _ _ _

pub loop-f-preserved : goal.loop-f-preserved
loop-f-preserved c =
    text-turn c.args.bytes.now _ _ _ _ _ c.loop-f.invariant _ (search rules) (search rules)
    c.put_nth.auto.out c.put_nth.ensures

pub returns : goal.returns
returns c = text-end _ _ _ _ _ _ c.loop-f.invariant refl (search rules)
