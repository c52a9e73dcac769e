use Rattle.spindles.proofs.Others.{others-left, live-others-left, only-depths, live-only-depths}
use Rattle.spindles.proofs.spins_leave_the_others.Goals as goal

pub returns-clause-left : goal.returns-clause-left
returns-clause-left c = others-left

pub returns-clause-left_live : goal.returns-clause-left_live
returns-clause-left_live c = live-others-left

pub returns-clause-depths : goal.returns-clause-depths
returns-clause-depths c = only-depths

pub returns-clause-depths_live : goal.returns-clause-depths_live
returns-clause-depths_live c = live-only-depths
