use Rattle.std.proofs.Common.{rules}
use Rattle.edits.proofs.PatchLoops.{patching-none, patching-turn, patching-past, patching-end}
use Rattle.edits.proofs.patch.Goals as goal
use Rattle.edits.proofs.patch.Goals.{then-at-bytes, else-at-bytes}

pub loop-i-init : goal.loop-i-init
loop-i-init c = patching-none _ _

pub loop-i-preserved : goal.loop-i-preserved
loop-i-preserved c =
    let done = c.loop-i.invariant in
    elim c.if-at-bytes.branch [
      | then-at-bytes w ↦ rw w.bytes-is (patching-turn _ _ _ _ done (search rules))
      | else-at-bytes w ↦ rw w.bytes-is (patching-past _ _ _ _ done (search rules) w.if-at-bytes.false)
    ]

pub returns : goal.returns
returns c = patching-end _ _ _ _ c.loop-i.invariant (search rules)
