use Rattle.std.proofs.Common.{◌<◌, arith, rules, slice_index}
use Rattle.text.proofs.frames.FrameLoops.{digits-none, digits-turn, digits-end}
use Rattle.text.proofs.frames.TextLoops.{frame-put}
use Rattle.text.proofs.frames.write.put_nth.Goals as goal

pub loop-k-init : goal.loop-k-init
loop-k-init c = digits-none _ _ _

pub loop-k-preserved : goal.loop-k-preserved
loop-k-preserved c =
    let small : slice_index c.ten_at-ten.result c.loop-k.k < 256 = omega (arith, c.ten_at-ten.type_inv) in
    digits-turn _ _ _ _ _ _ _ (search rules) c.loop-k.invariant (search rules) small
    c.put_byte.auto.out c.put_byte.ensures

pub returns : goal.returns
returns c =
    let a = c.args in
    frame-put a.bytes.now _ _ _ _ a.f c.ten_at-ten.ensures
    (digits-end _ _ _ _ _ _ _ (search rules) c.loop-k.invariant (search rules) (search rules) c.put_sum.ensures)
