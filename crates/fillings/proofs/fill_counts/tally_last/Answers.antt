-- `fillings::fill_counts::tally_last` meets its contract: there is room for all last words.
use Rattle.std.proofs.Common.{arith}
use Rattle.words.proofs.lists.Counts.{count-le}
use Rattle.fillings.specs.inner.TallyContracts.{is_taking}
use Rattle.fillings.proofs.fill_counts.Shares.{part-room}
use Rattle.fillings.proofs.fill_counts.tally_last.Goals as goal

pub overflow_mul-tally : goal.overflow_mul-tally
overflow_mul-tally c =
    let few = count-le (is_taking c.args.table.now.bytes.now c.args.leaving) 0 c.power-words.result in
    omega (
      arith,
      part-room c.args.each c.count_matching-matching.result c.power-words.result c.args.tally.now.ended
          (omega (arith, few, c.count_matching-matching.ensures)) (rw c.power-words.ensures c.requires.few.ended),
    )

pub overflow_add-tally : goal.overflow_add-tally
overflow_add-tally c =
    let few = count-le (is_taking c.args.table.now.bytes.now c.args.leaving) 0 c.power-words.result in
    omega (
      arith,
      part-room c.args.each c.count_matching-matching.result c.power-words.result c.args.tally.now.ended
          (omega (arith, few, c.count_matching-matching.ensures)) (rw c.power-words.ensures c.requires.few.ended),
    )

pub overflow_sub-tally : goal.overflow_sub-tally
overflow_sub-tally c =
    omega (arith, count-le (is_taking c.args.table.now.bytes.now c.args.leaving) 0 c.power-words.result, c.count_matching-matching.ensures)
