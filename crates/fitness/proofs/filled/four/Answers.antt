-- `fitness::filled::four` meets its contract.
use Rattle.std.proofs.Common.{arith}
use Rattle.fitness.specs.inner.FitnessContracts.{is_set}
use Rattle.fitness.proofs.filled.FilledCases.{joined-set}
use Rattle.fitness.proofs.filled.four.Goals as goal

pub returns : goal.returns
returns c =
    joined-set (is_set c.args.bytes.now) c.args.k 2 _ _ _ c.two.ensures c.two-2.ensures (λ h. omega arith) (λ h. omega arith)
