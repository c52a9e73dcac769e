-- `grouping::parting::Round::are_parted_by` meets its contract: a label that is not noted has no row to a marked one.
use Rattle.std.proofs.Common.{rules}
use Rattle.grouping.proofs.Marked.{by-none}
use Rattle.grouping.proofs.parting.Round.are_parted_by.Goals as goal

pub returns-then-self-m : goal.returns-then-self-m
returns-then-self-m c = search (rules, by-none)
