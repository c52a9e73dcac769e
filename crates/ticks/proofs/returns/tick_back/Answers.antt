use Rattle.std.proofs.Common.{refl, arith, rules}
use Rattle.std.proofs.lemmas.Grind.{common_steps}
use Rattle.state.specs.Kept.{view}
use Rattle.ticks.proofs.TickCases.{top-inside}
use Rattle.ticks.proofs.returns.ReturnCases.{last-steps, back-stop, back-steps}
use Rattle.ticks.proofs.returns.tick_back.Goals as goal

pub returns-then-depth-lt2 : goal.returns-then-depth-lt2
returns-then-depth-lt2 c = grind (arith, common_steps, last-steps)

pub returns-then-next-ge-NO_LABEL : goal.returns-then-next-ge-NO_LABEL
returns-then-next-ge-NO_LABEL c = grind (arith, common_steps, back-stop)

pub returns : goal.returns
returns c =
    back-steps _ c.args.table.now.whole _ _ c.requires.label c.if-depth-lt2.false _ c.next_beneath-next.ensures c.if-next-ge-NO_LABEL.false
    (omega (arith, top-inside (view c.args.state.now) c.requires.depth (search rules))) _ _ _ c.open_place.ensures c.put_place.ensures refl
