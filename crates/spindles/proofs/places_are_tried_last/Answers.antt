use Rattle.spindles.proofs.OneCall.{full-first, level-goes}
use Rattle.spindles.proofs.places_are_tried_last.Goals as goal

pub returns-clause-full_first : goal.returns-clause-full_first
returns-clause-full_first c = full-first

pub returns-clause-level_goes : goal.returns-clause-level_goes
returns-clause-level_goes c = level-goes
