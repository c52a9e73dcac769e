-- `text::reading::read_frames`: what is known of the frames from f on.
use Rattle.text.proofs.reading.ReadLoops.{Frames}
use Rattle.text.proofs.reading.read_frames.Given as goal

abbrev pub invariant-loop-f : goal.invariant-loop-f
invariant-loop-f l = Frames l.text l.initial.out l.out l.n l.f l.form l.sum

abbrev pub decreases-loop-f : goal.decreases-loop-f
decreases-loop-f l = l.f
