-- The tests of refusal 15 in the order in which they are tried: the open places come last.
use Rattle.std.proofs.Common.{◌-◌, Bool, ◌||◌, ◌≡◌, arith}
use Rattle.std.proofs.lemmas.Grind.{common_steps}
use Rattle.words.specs.lists.Numbers.{any}
use Rattle.image.specs.Image.{Image}
use Rattle.state.specs.State.{State}
use Rattle.fitness.specs.Fitness.{is_unfit_place, is_filled_place, has_bad_bottom, is_badly_served, has_bad_depth, is_unfit}

in-order : (a b c d e : Bool) → (a || b || c || d || e) ≡ (a || (e || (d || (b || c))))
in-order a b c d e = grind (arith, common_steps)

pub tried-as : (i : Image) (s : State) → is_unfit i s
    ≡ (has_bad_depth s || (any (is_badly_served i s) 2 15 || (any (is_filled_place s) s.depth (32 - s.depth)
    || (any (is_unfit_place i s) 0 s.depth || has_bad_bottom i s))))
unfolding is_unfit
tried-as i s =
    in-order (has_bad_depth s) (any (is_unfit_place i s) 0 s.depth) (has_bad_bottom i s)
    (any (is_filled_place s) s.depth (32 - s.depth)) (any (is_badly_served i s) 2 15)

pub ruleset tried = (tried-as)
