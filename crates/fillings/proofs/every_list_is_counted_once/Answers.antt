use Rattle.fillings.proofs.Lists.{all-lists}
use Rattle.fillings.proofs.Sums.{sums-up}
use Rattle.fillings.proofs.every_list_is_counted_once.Goals as goal

pub returns-clause-once : goal.returns-clause-once
returns-clause-once c = all-lists

pub returns-clause-sum : goal.returns-clause-sum
returns-clause-sum c = sums-up
