-- `fitness::filled::any_from` meets its contract: the first place that is filled ends the loop.
use Rattle.std.proofs.Common.{◌-◌, ◌≡◌}
use Rattle.words.specs.lists.Numbers.{any}
use Rattle.state.specs.Kept.{view}
use Rattle.fitness.specs.Fitness.{is_filled_place}
use Rattle.fitness.proofs.filled.any_from.Given as goal

-- what is left to look at answers for all
abbrev pub invariant-loop-k : goal.invariant-loop-k
invariant-loop-k l = let filled = is_filled_place (view l.state) in any filled l.k (32 - l.k) ≡ any filled l.from (32 - l.from)
