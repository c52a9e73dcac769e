-- `covering::words_in` meets its contract: the sum over the rows before f.
use Rattle.words.proofs.lists.Sums.{Adding}
use Rattle.image.specs.Decode.{row_in_frame}
use Rattle.covering.specs.inner.CoveringContracts.{words_with}
use Rattle.covering.proofs.words_in.Given as goal

abbrev pub invariant-loop-f : goal.invariant-loop-f
invariant-loop-f l = Adding (λ k. words_with l.bit (row_in_frame l.table k)) 65536 l.first l.end l.total l.f
