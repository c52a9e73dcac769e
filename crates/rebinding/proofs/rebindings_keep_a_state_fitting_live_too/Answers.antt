use Rattle.rebinding.proofs.rebindings_keep_a_state_fitting_live_too.Goals as goal
use Rattle.rebinding.proofs.Live.{live-rebind-is}
use Rattle.rebinding.proofs.Keeps.{rebind-fits}

pub returns-clause-live : goal.returns-clause-live
returns-clause-live c = live-rebind-is

pub returns-clause-fits : goal.returns-clause-fits
returns-clause-fits c = rebind-fits
