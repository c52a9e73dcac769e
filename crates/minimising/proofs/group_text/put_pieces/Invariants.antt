-- `minimising::group_text::put_pieces` meets its contract: the pieces of the frames before f stand in the buffer.
use Rattle.minimising.specs.inner.Pieces.{piece}
use Rattle.minimising.proofs.group_pieces.PieceCases.{Rest}
use Rattle.minimising.proofs.group_text.put_pieces.Given as goal

abbrev pub invariant-loop-f : goal.invariant-loop-f
invariant-loop-f l = Rest (piece l.table l.classes) l.initial.out l.out l.place l.n l.f
