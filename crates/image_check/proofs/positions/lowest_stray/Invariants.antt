-- `image_check::positions::lowest_stray` meets its contract: the loop keeps what is left to search.
use Rattle.std.proofs.Common.{◌-◌}
use Rattle.words.specs.lists.Numbers.{lowest}
use Rattle.words.proofs.lists.Searches.{Searching}
use Rattle.image.specs.Check.{is_stray}
use Rattle.image_check.proofs.positions.lowest_stray.Given as goal

abbrev pub invariant-loop-f : goal.invariant-loop-f
invariant-loop-f l = Searching (is_stray l.table) l.n l.f (lowest (is_stray l.table) 0 l.n)

abbrev pub decreases-loop-f : goal.decreases-loop-f
decreases-loop-f l = l.n - l.f
