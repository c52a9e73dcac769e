-- `fitness::filled::any_filled` meets its contract: of the places passed over none is filled.
use Rattle.std.proofs.Common.{◌-◌, ◌≡◌, ◌≤◌, false}
use Rattle.words.specs.lists.Numbers.{any}
use Rattle.state.specs.Kept.{view}
use Rattle.fitness.specs.Fitness.{is_filled_place}
use Rattle.fitness.proofs.filled.any_filled.Given as goal

abbrev pub invariant-loop-k : goal.invariant-loop-k
invariant-loop-k l = record {
  begun : l.depth ≤ l.k;
  short : l.k ≤ 31;
  passed : any (is_filled_place (view l.state)) l.depth (l.k - l.depth) ≡ false;
}

abbrev pub decreases-loop-k : goal.decreases-loop-k
decreases-loop-k l = 24 - l.k
