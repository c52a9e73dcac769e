use Rattle.spindle_walks.proofs.Prepared.{prepared-spin}
use Rattle.spindle_walks.proofs.prepared_spins_are_spins.Goals as goal

pub returns : goal.returns
returns c = record { definitions = prepared-spin }
