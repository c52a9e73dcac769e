-- `grouping::next_classes::next_class` meets its contract: without a note, l stays with the lowest label of its class.
use Rattle.std.proofs.Common.{arith, rules}
use Rattle.grouping.proofs.Marked.{unnoted-unparted}
use Rattle.grouping.proofs.TableRounds.{leader-first, leader-below}
use Rattle.grouping.proofs.next_classes.next_class.Goals as goal

pub returns-then-round-class-eq0 : goal.returns-then-round-class-eq0
returns-then-round-class-eq0 c =
    leader-first c.args.round.now.table.bytes.now _ _ _ c.requires.lowest (λ h. search (rules, unnoted-unparted))

pub overflow_cast-result : goal.overflow_cast-result
overflow_cast-result c =
    omega (arith, leader-below c.args.round.now.table.bytes.now _ _ _ c.requires.lowest _ _ c.class_leader.ensures c.unwrap_or.ensures, c.requires.high)
