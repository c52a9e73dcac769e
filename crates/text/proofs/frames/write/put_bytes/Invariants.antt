-- `text::frames::write::put_bytes` meets its contract: the bytes passed stand in the buffer.
use Rattle.std.proofs.Common.{length, slice_index}
use Rattle.words.proofs.lists.Fills.{ValuesFrom}
use Rattle.text.proofs.frames.write.put_bytes.Given as goal

abbrev pub invariant-loop-k : goal.invariant-loop-k
invariant-loop-k l = ValuesFrom (λ i. slice_index l.bytes i) l.initial.out l.out l.at (length l.bytes) l.k
