use Rattle.walk.proofs.each_word_makes_one_tick.Goals as goal
use Rattle.walk.proofs.Recursion.{tick-a-word}

pub returns : goal.returns
returns c = record { ticks = tick-a-word }
