-- `fitness::fit_places::any_unfit` meets its contract: the loop keeps what is known of the places below.
use Rattle.std.proofs.Common.{ap, arith}
use Rattle.std.proofs.lemmas.Grind.{common_steps}
use Rattle.image.specs.Image.{Label}
use Rattle.state.specs.State.{place_at}
use Rattle.state.specs.Kept.{view}
use Rattle.fitness.proofs.fit_places.UpwardCases.{called-label, called-byte, owner-byte, kind-byte, pass-high, pass-bottom, belongs-first, pass-wrong, belongs-above, pass-home, pass-top, pass-next, pass-all}
use Rattle.fitness.proofs.fit_places.any_unfit.Goals as goal

pub returns-then-last-bottom : goal.returns-then-last-bottom
returns-then-last-bottom c = pass-high _ (view c.args.state.now) 0 c.requires.some (grind (arith, common_steps))

pub returns-then-is_astray_at_bottom : goal.returns-then-is_astray_at_bottom
returns-then-is_astray_at_bottom c = pass-bottom _ (view c.args.state.now) (grind (arith, common_steps))

pub returns-then-calls_none : goal.returns-then-calls_none
returns-then-calls_none c =
    pass-top _ (view c.args.state.now) 0
    (belongs-first _ _ c.requires.some (grind (arith, common_steps)) (grind (arith, common_steps))) (grind (arith, common_steps))

pub loop-k-init : goal.loop-k-init
loop-k-init c =
    pass-next _ _ _ 0 (belongs-first _ _ c.requires.some (grind (arith, common_steps)) (grind (arith, common_steps)))
    (grind (arith, common_steps)) (called-label c.args.table.now.bytes.now (view c.args.state.now) _ _ (ap (λ (x : Label). x.called) c.label-first.ensures))

pub returns-then-is_miscalled : goal.returns-then-is_miscalled
returns-then-is_miscalled c =
    pass-wrong _ _ _ _ c.loop-k.invariant (omega (arith, c.loop-k-test.true)) (grind (arith, common_steps))

pub returns-then-l-eq1 : goal.returns-then-l-eq1
returns-then-l-eq1 c =
    pass-top _ (view c.args.state.now) c.loop-k.k
    (belongs-above _ _ _ _ c.loop-k.invariant (omega (arith, c.loop-k-test.true)) (grind (arith, common_steps)) (grind (arith, common_steps)))
    (grind (arith, common_steps))

pub returns-then-not-is_two_to : goal.returns-then-not-is_two_to
returns-then-not-is_two_to c =
    pass-home _ _ _ _ c.loop-k.invariant (omega (arith, c.loop-k-test.true)) (grind (arith, common_steps)) (grind (arith, common_steps))
    (grind (arith, common_steps))

pub returns-then-owner-server : goal.returns-then-owner-server
returns-then-owner-server c =
    let owner = owner-byte c.args.table.now.bytes.now (view c.args.state.now) (place_at (view c.args.state.now) c.loop-k.k) _ (grind (arith, common_steps)) (grind (arith, common_steps))
    c.field_behind-owner.ensures in
    pass-wrong _ _ _ _ c.loop-k.invariant (omega (arith, c.loop-k-test.true)) (grind (arith, common_steps, owner))

pub returns-then-calls_none-2 : goal.returns-then-calls_none-2
returns-then-calls_none-2 c =
    let owner = owner-byte c.args.table.now.bytes.now (view c.args.state.now) (place_at (view c.args.state.now) c.loop-k.k) _ (grind (arith, common_steps)) (grind (arith, common_steps))
    c.field_behind-owner.ensures in
    let call = kind-byte c.args.table.now.bytes.now (view c.args.state.now) (place_at (view c.args.state.now) c.loop-k.k) _ (grind (arith, common_steps)) (grind (arith, common_steps))
    c.field_behind-kind.ensures in
    pass-top _ (view c.args.state.now) c.loop-k.k
    (belongs-above _ _ _ _ c.loop-k.invariant (omega (arith, c.loop-k-test.true)) (grind (arith, common_steps)) (grind (arith, common_steps, owner)))
    (grind (arith, common_steps, call))

pub loop-k-preserved : goal.loop-k-preserved
loop-k-preserved c =
    let owner = owner-byte c.args.table.now.bytes.now (view c.args.state.now) (place_at (view c.args.state.now) c.loop-k.k) _ (grind (arith, common_steps)) (grind (arith, common_steps))
    c.field_behind-owner.ensures in
    let call = kind-byte c.args.table.now.bytes.now (view c.args.state.now) (place_at (view c.args.state.now) c.loop-k.k) _ (grind (arith, common_steps)) (grind (arith, common_steps))
    c.field_behind-kind.ensures in
    pass-next _ _ _ c.loop-k.k
    (belongs-above _ _ _ _ c.loop-k.invariant (omega (arith, c.loop-k-test.true)) (grind (arith, common_steps)) (grind (arith, common_steps, owner)))
    (grind (arith, common_steps, call))
    (called-byte c.args.table.now.bytes.now (view c.args.state.now) (place_at (view c.args.state.now) c.loop-k.k) _ (grind (arith, common_steps)) (grind (arith, common_steps))
    c.field_behind-called.ensures)

pub returns : goal.returns
returns c = pass-all _ _ _ _ c.loop-k.invariant (omega (arith, c.loop-k-test.false))
