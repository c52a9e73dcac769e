use Rattle.ticks.proofs.no_two_ticks_share_a_code.Goals as goal
use Rattle.ticks.proofs.codes.CodeLaws.{code-means, drop-means, meaning-coded}

pub returns-clause-code_means : goal.returns-clause-code_means
returns-clause-code_means c = code-means

pub returns-clause-drop_means : goal.returns-clause-drop_means
returns-clause-drop_means c = drop-means

pub returns-clause-meaning_coded : goal.returns-clause-meaning_coded
returns-clause-meaning_coded c = meaning-coded
