use Rattle.cause.proofs.a_cause_is_exact.Goals as goal
use Rattle.cause.proofs.Explained.{same-row, same-tick, row-taken, row-leads, care-needed, refuses}
use Rattle.cause.proofs.Answers.{cause-told}

pub returns-clause-same_row : goal.returns-clause-same_row
returns-clause-same_row c = same-row

pub returns-clause-same_tick : goal.returns-clause-same_tick
returns-clause-same_tick c = same-tick

pub returns-clause-row_taken : goal.returns-clause-row_taken
returns-clause-row_taken c = row-taken

pub returns-clause-row_leads : goal.returns-clause-row_leads
returns-clause-row_leads c = row-leads

pub returns-clause-care_needed : goal.returns-clause-care_needed
returns-clause-care_needed c = care-needed

pub returns-clause-refused_exactly : goal.returns-clause-refused_exactly
returns-clause-refused_exactly c = refuses

pub returns-clause-told : goal.returns-clause-told
returns-clause-told c = cause-told
