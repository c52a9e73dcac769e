-- `grouping::first_classes::first_classes` meets its contract: label l gets its class and its link, and heads its tag.
use Rattle.std.proofs.Common.{rules, ◌∙◌}
use Rattle.grouping.proofs.TableRounds.{fill-first, fill-on, first-own, first-below, first-all}
use Rattle.grouping.proofs.Links.{linked-none, headed-none, linked-on, headed-on}
use Rattle.grouping.proofs.first_classes.first_classes.Goals as goal

pub loop-l-init : goal.loop-l-init
loop-l-init c = record {
  filled = search (rules, fill-first);
  linked = linked-none _ _;
  headed = headed-none _ _ c.requires;
}

pub class_along-requires-clause-first : goal.class_along-requires-clause-first
class_along-requires-clause-first c = first-below _ _ _ _ _ c.loop-l.invariant.filled

pub loop-l-preserved : goal.loop-l-preserved
loop-l-preserved c = record {
  filled = fill-on _ _ _ _ _ _ c.loop-l.invariant.filled (search rules) _ (c.class_along.ensures ∙ first-own _ _);
  linked = search (rules, linked-on);
  headed = search (rules, headed-on);
}

pub returns-clause-first : goal.returns-clause-first
returns-clause-first c = search (rules, first-all)
