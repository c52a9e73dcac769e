-- `text::frame_reading::values_of` meets its contract: each byte is made of the two digits at its place.
use Rattle.words.proofs.lists.Arrays.{Filled}
use Rattle.text.specs.inner.FrameReads.{value_of}
use Rattle.text.proofs.frame_reading.values_of.Given as goal

abbrev pub invariant-loop-k : goal.invariant-loop-k
invariant-loop-k l = Filled (value_of l.digits) 0 l.values 11 l.k
