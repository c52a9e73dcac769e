-- `fillings::fill_counts::tally_one` meets its contract: none of the ticks that were made was stopped.
use Rattle.std.proofs.Common.{◌-◌}
use Rattle.fillings.proofs.fill_counts.Zeros.{Zeros}
use Rattle.fillings.proofs.fill_counts.tally_one.Given as goal

abbrev pub invariant-loop-done : goal.invariant-loop-done
invariant-loop-done l = Zeros l.table.bytes.now l.fn.start l.n l.kept l.state l.done

abbrev pub decreases-loop-done : goal.decreases-loop-done
decreases-loop-done l = l.n - l.done
