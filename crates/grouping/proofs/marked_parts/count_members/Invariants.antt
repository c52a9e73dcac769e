-- `grouping::marked_parts::count_members` meets its contract: a step for each label.
use Rattle.std.proofs.Common.{slice_index}
use Rattle.grouping.specs.inner.Parts.{member_count}
use Rattle.grouping.proofs.Labelled.{Labelling}
use Rattle.grouping.proofs.marked_parts.count_members.Given as goal

abbrev pub invariant-loop-l : goal.invariant-loop-l
invariant-loop-l l = Labelling (λ l'. slice_index l.classes l') (λ l' counts'. member_count counts' (slice_index l.classes l') l') l.fn.counts l.n
    l.counts l.l
