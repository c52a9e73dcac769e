use Rattle.walk.proofs.the_walk_is_a_simpler_one.Goals as goal
use Rattle.walk.proofs.OwnBinding.{own-binding}
use Rattle.walk.proofs.NoHandler.{no-handler, any-places}

pub returns-clause-own_binding : goal.returns-clause-own_binding
returns-clause-own_binding c = own-binding

pub returns-clause-no_handler : goal.returns-clause-no_handler
returns-clause-no_handler c = no-handler

pub returns-clause-any_places : goal.returns-clause-any_places
returns-clause-any_places c = any-places
