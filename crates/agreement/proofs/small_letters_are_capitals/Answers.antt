use Rattle.agreement.proofs.small_letters_are_capitals.Goals as goal
use Rattle.agreement.proofs.Capitals.{as-in-capitals}

pub returns : goal.returns
returns c = record { every_text = as-in-capitals }
