-- `grouping::marked_parts::mark_left` meets its contract: one write for each label.
use Rattle.std.proofs.Common.{slice_index}
use Rattle.grouping.specs.inner.Parts.{mark_of}
use Rattle.grouping.proofs.Labelled.{Labelling}
use Rattle.grouping.proofs.marked_parts.mark_left.Given as goal

abbrev pub invariant-loop-l : goal.invariant-loop-l
invariant-loop-l l = Labelling (λ l'. l') (λ l' _. mark_of (slice_index l.next l') (slice_index l.classes l')) l.fn.marks l.n l.marks l.l
