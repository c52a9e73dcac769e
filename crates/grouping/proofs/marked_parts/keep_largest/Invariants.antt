-- `grouping::marked_parts::keep_largest` meets its contract: one write for each label.
use Rattle.std.proofs.Common.{slice_index}
use Rattle.grouping.specs.inner.Parts.{larger_part}
use Rattle.grouping.proofs.Labelled.{Labelling}
use Rattle.grouping.proofs.marked_parts.keep_largest.Given as goal

abbrev pub invariant-loop-l : goal.invariant-loop-l
invariant-loop-l l = Labelling (λ l'. slice_index l.classes l')
    (λ l' kept'. larger_part l.counts kept' (slice_index l.classes l') l' (slice_index l.next l')) l.fn.kept l.n l.kept l.l
