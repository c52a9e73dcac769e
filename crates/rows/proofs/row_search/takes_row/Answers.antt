-- `rows::row_search::takes_row` meets its contract: a row is taken where one matches.
use Rattle.std.proofs.Common.{arith}
use Rattle.rows.proofs.row_search.SeekCases.{takes}
use Rattle.rows.proofs.row_search.takes_row.Goals as goal

pub returns : goal.returns
returns c =
    takes _ _ _ _ _ _ c.requires.deciding c.first_of-first.ensures c.end_of-end.ensures c.args.table.now.whole c.args.table.now.small
    _ c.swap.ensures _ c.next_match.ensures c.requires.low (omega (arith, c.requires.high, c.args.table.now.last_read))
