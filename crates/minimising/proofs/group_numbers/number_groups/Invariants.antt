-- `minimising::group_numbers::number_groups` meets its contract: the labels below l have the numbers of their groups.
use Rattle.minimising.proofs.group_numbers.NumberCases.{NumberTurn}
use Rattle.minimising.proofs.group_numbers.number_groups.Given as goal

abbrev pub invariant-loop-l : goal.invariant-loop-l
invariant-loop-l l = NumberTurn l.classes l.fn.numbers l.numbers l.n l.groups l.l
