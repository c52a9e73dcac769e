-- `minimising::group_numbers::number_groups` meets its contract: the labels below l have the numbers of their groups.
use Rattle.std.proofs.Common.{rules}
use Rattle.minimising.proofs.group_numbers.NumberCases.{turn-start, turn-on, turn-all}
use Rattle.minimising.proofs.group_numbers.number_groups.Goals as goal

pub loop-l-init : goal.loop-l-init
loop-l-init c = search (rules, turn-start)

pub loop-l-preserved : goal.loop-l-preserved
loop-l-preserved c = search (rules, turn-on)

pub returns-clause-numbered : goal.returns-clause-numbered
returns-clause-numbered c = search (rules, turn-all)
