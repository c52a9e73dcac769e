use Rattle.rows.proofs.the_best_tested_row_is_chosen.Goals as goal
use Rattle.rows.proofs.BestRows.{best-is, is-best, none-matches, best-none}

pub returns-clause-chosen_is_best : goal.returns-clause-chosen_is_best
returns-clause-chosen_is_best c = best-is

pub returns-clause-best_is_chosen : goal.returns-clause-best_is_chosen
returns-clause-best_is_chosen c = is-best

pub returns-clause-none_matches : goal.returns-clause-none_matches
returns-clause-none_matches c = none-matches

pub returns-clause-none_chosen : goal.returns-clause-none_chosen
returns-clause-none_chosen c l w b k rs = best-none l w b k rs
