-- `covering::masks_tell_what_matches_two_rows` meets its contract: rows that agree where both care have a word in common.
use Rattle.covering.proofs.masks_tell_what_matches_two_rows.Goals as goal
use Rattle.covering.proofs.Together.{rows-together-common, rows-common-together}

pub returns-clause-together_common : goal.returns-clause-together_common
returns-clause-together_common c = rows-together-common

pub returns-clause-common_together : goal.returns-clause-common_together
returns-clause-common_together c = rows-common-together
