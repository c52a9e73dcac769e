-- `table_check::placing::lowest_bad` meets its contract: the loop keeps what is left to search.
use Rattle.std.proofs.Common.{◌-◌}
use Rattle.words.specs.lists.Numbers.{lowest}
use Rattle.words.proofs.lists.Searches.{Searching}
use Rattle.image.specs.Check.{has_bad_content}
use Rattle.table_check.proofs.placing.lowest_bad.Given as goal

abbrev pub invariant-loop-f : goal.invariant-loop-f
invariant-loop-f l = Searching (has_bad_content l.table) l.n l.f (lowest (has_bad_content l.table) 0 l.n)

abbrev pub decreases-loop-f : goal.decreases-loop-f
decreases-loop-f l = l.n - l.f
