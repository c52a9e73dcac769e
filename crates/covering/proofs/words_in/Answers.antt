-- `covering::words_in` meets its contract: no row has more than 65,536 words, so the sum has room.
use Rattle.words.proofs.lists.Sums.{adding-start, adding-on}
use Rattle.std.proofs.Common.{rules}
use Rattle.covering.proofs.words_in.Goals as goal

pub loop-f-init : goal.loop-f-init
loop-f-init c = search (rules, adding-start)

pub loop-f-preserved : goal.loop-f-preserved
loop-f-preserved c = search (rules, adding-on)
