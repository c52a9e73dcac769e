-- `text::frame_reading::read_frame` meets its contract: the bytes made of the digits are the frame's, and so are those added and stored.
use Rattle.text.proofs.frame_reading.ReadFrame.{Stored}
use Rattle.text.proofs.frame_reading.read_frame.Given as goal

abbrev pub invariant-loop-k : goal.invariant-loop-k
invariant-loop-k l = Stored l.text l.f l.initial.out l.out l.total l.k
