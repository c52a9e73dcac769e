-- `image_check::image_faults::lowest_label` meets its contract: the loop keeps what is left to search.
use Rattle.std.proofs.Common.{◌-◌, ◌≤◌}
use Rattle.image_check.specs.inner.FaultyFrames.{is_faulty}
use Rattle.words.specs.lists.Numbers.{lowest}
use Rattle.words.proofs.lists.Searches.{Searching}
use Rattle.image_check.proofs.image_faults.lowest_label.Given as goal

abbrev pub invariant-loop-f : goal.invariant-loop-f
invariant-loop-f l = (l.first ≤ l.f) × Searching (is_faulty l.table) l.end l.f (lowest (is_faulty l.table) l.first (l.end - l.first))

abbrev pub decreases-loop-f : goal.decreases-loop-f
decreases-loop-f l = l.end - l.f
