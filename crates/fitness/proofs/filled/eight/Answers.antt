-- `fitness::filled::eight` meets its contract.
use Rattle.std.proofs.Common.{arith}
use Rattle.fitness.specs.inner.FitnessContracts.{is_set}
use Rattle.fitness.proofs.filled.FilledCases.{joined-set}
use Rattle.fitness.proofs.filled.eight.Goals as goal

pub returns : goal.returns
returns c =
    joined-set (is_set c.args.bytes.now) c.args.k 4 _ _ _ c.four.ensures c.four-2.ensures (λ h. omega arith) (λ h. omega arith)
