-- `text::frames::write::put_text` meets its contract: the frames passed stand in the buffer.
use Rattle.words.proofs.lists.Fills.{Pieces}
use Rattle.text.proofs.frames.TextLoops.{frame_of}
use Rattle.text.proofs.frames.write.put_text.Given as goal

abbrev pub invariant-loop-f : goal.invariant-loop-f
invariant-loop-f l = Pieces (frame_of l.bytes) 23 l.initial.out l.out l.at l.n l.f
