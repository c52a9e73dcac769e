-- `fillings::fill_lists::tally_all`: in the loop the first words below one are tallied. The measure is the number of words.
use Rattle.std.proofs.Common.{◌-◌}
use Rattle.fillings.proofs.fill_lists.Turns.{Part}
use Rattle.fillings.proofs.fill_lists.+tally_all.Given as goal

abbrev pub decreases-tally_all : goal.decreases-tally_all
decreases-tally_all l = l.n

abbrev pub invariant-loop-word : goal.invariant-loop-word
invariant-loop-word l =
    Part l.table.bytes.now l.state l.n l.k l.left l.each l.fork.words l.fork.each l.lists l.fn.tally l.tally l.word

abbrev pub decreases-loop-word : goal.decreases-loop-word
decreases-loop-word l = l.fork.words - l.word
