-- `fillings::counting::fresh_of` meets its contract: a size that is not refused makes a fresh state.
use Rattle.fillings.proofs.counting.EntryCases.{fresh-made}
use Rattle.fillings.proofs.counting.fresh_of.Goals as goal

pub returns : goal.returns
returns c = fresh-made _ c.requires _ c.fresh.ensures.state
