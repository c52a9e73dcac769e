-- `table_check::placing::lowest_displaced` meets its contract: the loop keeps what is left to search.
use Rattle.std.proofs.Common.{◌-◌}
use Rattle.words.specs.lists.Numbers.{lowest}
use Rattle.words.proofs.lists.Searches.{Searching}
use Rattle.table_check.specs.TableCheck.{is_displaced}
use Rattle.table_check.proofs.placing.lowest_displaced.Given as goal

abbrev pub invariant-loop-f : goal.invariant-loop-f
invariant-loop-f l = Searching (is_displaced l.table) l.n l.f (lowest (is_displaced l.table) 0 l.n)

abbrev pub decreases-loop-f : goal.decreases-loop-f
decreases-loop-f l = l.n - l.f
