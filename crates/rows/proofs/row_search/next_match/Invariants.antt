-- `rows::row_search::next_match` meets its contract: none of the rows passed so far matches.
use Rattle.std.proofs.Common.{◌-◌, ◌%◌, ◌≤◌}
use Rattle.rows.specs.inner.Search.{swapped_word}
use Rattle.rows.specs.inner.NextMatch.{Unmatched}
use Rattle.rows.proofs.row_search.next_match.Given as goal

abbrev pub invariant-loop-f : goal.invariant-loop-f
invariant-loop-f l = Unmatched l.bytes (swapped_word (l.swapped % 65536)) l.bit l.from l.f × (l.f ≤ l.end)

abbrev pub decreases-loop-f : goal.decreases-loop-f
decreases-loop-f l = l.end - l.f
