use Rattle.spindles.proofs.OneCall.{refused-leaves, live-refused-leaves}
use Rattle.spindles.proofs.refused_spins_change_nothing.Goals as goal

pub returns-clause-spin : goal.returns-clause-spin
returns-clause-spin c = refused-leaves

pub returns-clause-live_spin : goal.returns-clause-live_spin
returns-clause-live_spin c = live-refused-leaves
