use Rattle.rows.proofs.SearchCases.{chosen-inside}
use Rattle.rows.proofs.row_search.next_row.Goals as goal

pub next_in-requires : goal.next_in-requires
next_in-requires c = chosen-inside _ _ _ _ c.args.table.now.whole c.args.table.now.small _ c.take_row-f.ensures
