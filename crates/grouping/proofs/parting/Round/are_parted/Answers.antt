-- `grouping::parting::Round::are_parted` meets its contract: rows to marked labels, of one label and then of the other, are enough.
use Rattle.std.proofs.Common.{arith, rules, sym}
use Rattle.std.proofs.lemmas.Grind.{common_steps}
use Rattle.grouping.proofs.Marked.{unnoted-unparted, parted-by}
use Rattle.grouping.proofs.parting.Round.are_parted.Goals as goal

pub returns-then-are_parted_by : goal.returns-then-are_parted_by
returns-then-are_parted_by c = grind (arith, common_steps, parted-by _ _ _ _ c.args.self.now.marked c.args.m c.args.l)

pub returns-else-are_parted_by : goal.returns-else-are_parted_by
returns-else-are_parted_by c = grind (arith, common_steps, parted-by _ _ _ _ c.args.self.now.marked c.args.m c.args.l)

pub returns-then-self-l-eq0 : goal.returns-then-self-l-eq0
returns-then-self-l-eq0 c =
    sym (search (rules, unnoted-unparted))
