-- `text::frame_reading::read_digits` meets its contract: what is known of the characters passed is known of all.
use Rattle.text.proofs.frame_reading.ReadFrame.{Taken}
use Rattle.text.proofs.frame_reading.read_digits.Given as goal

abbrev pub invariant-loop-i : goal.invariant-loop-i
invariant-loop-i l = Taken l.text l.from l.digits l.form l.i
