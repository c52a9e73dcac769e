-- `fillings::fill_counts::count_matching` meets its contract: the words below one are counted.
use Rattle.std.proofs.Common.{arith}
use Rattle.std.proofs.lemmas.Grind.{common_steps}
use Rattle.words.proofs.lists.Counts.{count-yes, count-pass}
use Rattle.fillings.specs.inner.TallyContracts.{is_taking}
use Rattle.fillings.proofs.fill_counts.Shares.{count-start}
use Rattle.fillings.proofs.fill_counts.count_matching.Goals as goal

pub loop-word-init : goal.loop-word-init
loop-word-init c = record { low = omega arith; few = omega arith; part = count-start (is_taking c.args.table.now.bytes.now c.args.leaving) }

pub loop-word-preserved : goal.loop-word-preserved
loop-word-preserved c = record {
  low = omega arith;
  few = grind (arith, common_steps);
  part = grind (arith, common_steps, count-yes, count-pass);
}
