-- `tables::preparing::skip_below` meets its contract: the loop keeps what is left to search.
use Rattle.std.proofs.Common.{◌≡◌, ◌-◌, ◌≤◌}
use Rattle.words.specs.lists.Numbers.{lowest}
use Rattle.tables.specs.Prepare.{is_row_reached}
use Rattle.tables.proofs.preparing.skip_below.Given as goal

abbrev pub invariant-loop-f : goal.invariant-loop-f
invariant-loop-f l = (l.f ≤ l.end) × (lowest (is_row_reached l.table l.l) l.f (l.end - l.f) ≡ lowest (is_row_reached l.table l.l) l.first
    (l.end - l.first))

abbrev pub decreases-loop-f : goal.decreases-loop-f
decreases-loop-f l = l.end - l.f
