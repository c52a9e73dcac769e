use Rattle.state.specs.Kept.{view}
use Rattle.ticks.proofs.full_stack.FullCases.{kept-none, kept-owner}
use Rattle.ticks.proofs.full_stack.keeps_full.Goals as goal

pub returns-then-handler-eq0 : goal.returns-then-handler-eq0
returns-then-handler-eq0 c = kept-none _ (view c.args.state.now) _ c.handler-handler.ensures c.if-handler-eq0.true

pub returns : goal.returns
returns c =
    kept-owner _ (view c.args.state.now) _ c.handler-handler.ensures c.if-handler-eq0.false c.if-l-eq1.false _ c.label-bottom.ensures
