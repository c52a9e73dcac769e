-- `text::frames::write::ten_at` meets its contract: each of the ten stands at its place.
use Rattle.words.proofs.lists.Arrays.{Filled}
use Rattle.text.specs.frames.Frame.{field}
use Rattle.text.proofs.frames.write.ten_at.Given as goal

abbrev pub invariant-loop-k : goal.invariant-loop-k
invariant-loop-k l = Filled (field l.bytes l.f) 0 l.ten 10 l.k
