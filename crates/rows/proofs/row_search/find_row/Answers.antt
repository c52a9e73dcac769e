-- `rows::row_search::find_row` meets its contract: no row matches, or one alone, or the best of several is taken.
use Rattle.rows.proofs.row_search.SeekCases.{none-found, only-found, best-found}
use Rattle.rows.proofs.row_search.find_row.Goals as goal

pub returns-then-end-found : goal.returns-then-end-found
returns-then-end-found c =
    none-found _ _ _ _ _ _ c.requires.deciding c.first_of-first.ensures c.end_of-end.ensures c.args.table.now.whole c.args.table.now.small
    _ c.swap-swapped.ensures _ c.next_match-found.ensures c.if-end-found.true

pub returns-then-end-second : goal.returns-then-end-second
returns-then-end-second c =
    only-found _ _ _ _ _ _ c.requires.deciding c.first_of-first.ensures c.end_of-end.ensures c.args.table.now.whole c.args.table.now.small
    _ c.swap-swapped.ensures _ c.next_match-found.ensures c.if-end-found.false _ c.next_match-second.ensures c.if-end-second.true

pub returns : goal.returns
returns c =
    best-found _ _ _ _ _ _ c.requires.deciding c.first_of-first.ensures c.end_of-end.ensures c.args.table.now.whole c.args.table.now.small
    _ c.swap-swapped.ensures _ c.next_match-found.ensures c.if-end-found.false _ c.next_match-second.ensures _ c.compare_rows.ensures
