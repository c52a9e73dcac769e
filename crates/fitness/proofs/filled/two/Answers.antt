-- `fitness::filled::two` meets its contract.
use Rattle.std.proofs.Common.{◌+◌, arith}
use Rattle.fitness.specs.inner.FitnessContracts.{is_set}
use Rattle.fitness.proofs.filled.FilledCases.{joined-set, any-one}
use Rattle.fitness.proofs.filled.two.Goals as goal

pub returns : goal.returns
returns c =
    joined-set (is_set c.args.bytes.now) c.args.k 1 _ _ _ (any-one (is_set c.args.bytes.now) c.args.k)
    (any-one (is_set c.args.bytes.now) (c.args.k + 1)) (λ h. omega arith) (λ h. omega arith)
