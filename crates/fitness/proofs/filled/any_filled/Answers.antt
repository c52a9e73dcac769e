-- `fitness::filled::any_filled` meets its contract: of the places passed over none is filled.
use Rattle.std.proofs.Common.{◌∙◌, arith}
use Rattle.std.proofs.lemmas.Grind.{common_steps}
use Rattle.state.specs.Kept.{view}
use Rattle.fitness.specs.Fitness.{is_filled_place}
use Rattle.fitness.proofs.filled.FilledCases.{eight-on, eight-found, eight-last, any-empty}
use Rattle.fitness.proofs.filled.any_filled.Goals as goal

pub loop-k-init : goal.loop-k-init
loop-k-init c = record {
  begun = omega arith;
  short = omega arith;
  passed = any-empty (is_filled_place (view c.args.state.now)) c.args.state.now.depth;
}

pub returns-then-any_filled_of_eight : goal.returns-then-any_filled_of_eight
returns-then-any_filled_of_eight c =
    eight-found (is_filled_place (view c.args.state.now)) _ _ c.loop-k.invariant.begun c.loop-k.invariant.passed
    (omega (arith, c.loop-k-test.true)) (grind (arith, common_steps))

pub loop-k-preserved : goal.loop-k-preserved
loop-k-preserved c = record {
  begun = omega (arith, c.loop-k.invariant.begun);
  short = omega (arith, c.loop-k-test.true);
  passed =
      eight-on (is_filled_place (view c.args.state.now)) _ _ c.loop-k.invariant.begun c.loop-k.invariant.passed
      (grind (arith, common_steps));
}

pub returns : goal.returns
returns c =
    c.any_filled_of_eight-2.ensures
    ∙ eight-last (is_filled_place (view c.args.state.now)) _ _ c.loop-k.invariant.begun c.loop-k.invariant.passed
    (omega arith) (omega (arith, c.loop-k-test.false))
