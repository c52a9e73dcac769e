-- `output::run_output::count_up` meets its contract: each place passed holds its own number.
use Rattle.output.proofs.run_output.Runs.{CountedWords}
use Rattle.output.proofs.run_output.count_up.Given as goal

abbrev pub invariant-loop-i : goal.invariant-loop-i
invariant-loop-i l = CountedWords l.all l.i
