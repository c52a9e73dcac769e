use Rattle.rows.proofs.a_listing_is_exact.Goals as goal
use Rattle.rows.proofs.listing.Laws.{exactly, empty-zero, low-zero, listed-frames}
use Rattle.rows.proofs.listing.Answers.{held-on-success}

pub returns-clause-exactly : goal.returns-clause-exactly
returns-clause-exactly c = exactly

pub returns-clause-empty_zero : goal.returns-clause-empty_zero
returns-clause-empty_zero c = empty-zero

pub returns-clause-low_zero : goal.returns-clause-low_zero
returns-clause-low_zero c = low-zero

pub returns-clause-held : goal.returns-clause-held
returns-clause-held c = held-on-success

pub returns-clause-listed_frames : goal.returns-clause-listed_frames
returns-clause-listed_frames c = listed-frames
