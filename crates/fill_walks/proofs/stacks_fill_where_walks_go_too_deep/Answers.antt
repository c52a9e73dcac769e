use Rattle.fill_walks.proofs.stacks_fill_where_walks_go_too_deep.Goals as goal
use Rattle.fill_walks.proofs.ForC.{by-the-walk-c}

pub returns-clause-calls_from_c : goal.returns-clause-calls_from_c
returns-clause-calls_from_c c = by-the-walk-c
