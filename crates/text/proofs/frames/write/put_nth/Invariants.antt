-- `text::frames::write::put_nth` meets its contract: the characters of the bytes passed stand in the buffer, and the sum is theirs.
use Rattle.text.proofs.frames.FrameLoops.{Digits}
use Rattle.text.proofs.frames.write.put_nth.Given as goal

abbrev pub invariant-loop-k : goal.invariant-loop-k
invariant-loop-k l = Digits l.initial.out l.ten l.out l.at l.sum l.k
