-- `rows::row_search::take_row` meets its contract: a single row, the one of two that matches, else what the search finds.
use Rattle.std.proofs.Common.{arith}
use Rattle.std.proofs.lemmas.Grind.{common_steps}
use Rattle.rows.proofs.SearchCases.{end-within, few-frames, one-found}
use Rattle.rows.proofs.row_search.SeekCases.{first-of-two, second-of-two}
use Rattle.rows.proofs.row_search.take_row.Goals as goal

pub returns-then-end-first : goal.returns-then-end-first
returns-then-end-first c = grind (arith, common_steps, one-found)

pub returns-then-not-is_matching : goal.returns-then-not-is_matching
returns-then-not-is_matching c = grind (arith, common_steps, end-within, few-frames, first-of-two)

pub returns-then-is_matching-2 : goal.returns-then-is_matching-2
returns-then-is_matching-2 c = grind (arith, common_steps, few-frames, end-within, second-of-two)
