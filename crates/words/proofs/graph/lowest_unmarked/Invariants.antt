-- `words::graph::lowest_unmarked` meets its contract: the loop keeps what is left to search.
use Rattle.std.proofs.Common.{◌-◌, not, length}
use Rattle.words.specs.lists.Numbers.{lowest}
use Rattle.words.proofs.lists.Searches.{Searching}
use Rattle.words.specs.graph.Reach.{is_marked}
use Rattle.words.proofs.graph.lowest_unmarked.Given as goal

abbrev pub invariant-loop-u : goal.invariant-loop-u
invariant-loop-u l =
    Searching (λ v. not (is_marked l.marks v)) (length l.marks) l.u (lowest (λ v. not (is_marked l.marks v)) 0 (length l.marks))

abbrev pub decreases-loop-u : goal.decreases-loop-u
decreases-loop-u l = length l.marks - l.u
