-- `rebinding::in_place::rebind_table` meets its contract:
-- the state is unfit, the rebinding is refused, or the server of the number is written.
use Rattle.std.proofs.Common.{arith}
use Rattle.std.proofs.lemmas.Grind.{common_steps}
use Rattle.rebinding.proofs.RebindCases.{unfit-rebinds, bad-rebinds, done-rebinds}
use Rattle.rebinding.proofs.in_place.rebind_table.Goals as goal

pub returns-then-is_unfit : goal.returns-then-is_unfit
returns-then-is_unfit c = unfit-rebinds _ _ _ _ _ c.is_unfit.ensures c.if-is_unfit.true

pub returns-then-bad_rebinding : goal.returns-then-bad_rebinding
returns-then-bad_rebinding c = grind (arith, common_steps, bad-rebinds)

pub returns : goal.returns
returns c =
    done-rebinds _ _ _ _ _ c.is_unfit.ensures c.if-is_unfit.false _ c.bad_rebinding.ensures c.if-bad_rebinding.false _ _
    c.put_serving.ensures c.tidy.ensures
