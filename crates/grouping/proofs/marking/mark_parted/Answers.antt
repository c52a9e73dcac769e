-- `grouping::marking::mark_parted` meets its contract: by those of its two steps.
use Rattle.std.proofs.Common.{rules}
use Rattle.grouping.proofs.Touches.{round-marked}
use Rattle.grouping.proofs.marking.mark_parted.Goals as goal

pub returns : goal.returns
returns c = search (rules, round-marked)
