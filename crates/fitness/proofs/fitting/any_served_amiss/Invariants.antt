-- `fitness::fitting::any_served_amiss` meets its contract: the first number that is served amiss ends the loop.
use Rattle.std.proofs.Common.{◌+◌, ◌-◌, ◌≡◌}
use Rattle.words.specs.lists.Numbers.{any}
use Rattle.state.specs.Kept.{view}
use Rattle.fitness.specs.inner.FitnessContracts.{is_served_amiss}
use Rattle.fitness.proofs.fitting.any_served_amiss.Given as goal

-- what is left to look at answers for all
abbrev pub invariant-loop-h : goal.invariant-loop-h
invariant-loop-h l =
    let amiss = is_served_amiss l.schemes l.handler (view l.state) in
    any amiss l.h (l.first + 4 - l.h) ≡ any amiss l.first 4
