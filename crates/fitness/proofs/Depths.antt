-- A depth of 1 to Σ, with Σ of 1 to 32: what passes the first test of refusal 15.
use Rattle.std.proofs.Common.{◌≤◌, false, ◌≡◌, arith}
use Rattle.std.proofs.lemmas.Grind.{common_steps}
use Rattle.state.specs.State.{State}
use Rattle.fitness.specs.Fitness.{has_bad_depth}

pub record DeepState (s : State) : Type 0 where
  pub some : 1 ≤ s.depth
  pub most : s.depth ≤ s.size
  pub small : s.size ≤ 32

pub deep-told : (s : State) → has_bad_depth s ≡ false → DeepState s
deep-told s e = grind (arith, common_steps)

pub deep-fine : (s : State) → DeepState s → has_bad_depth s ≡ false
deep-fine s y = grind (arith, common_steps)
