-- `cause::conditions::against_rows` meets its contract: the conditions of the rows passed stand in the mask.
use Rattle.std.proofs.Common.{rules, arith}
use Rattle.std.proofs.lemmas.Grind.{common_steps}
use Rattle.cause.proofs.ConditionCases.{joined-none, joined-more, joined-all}
use Rattle.cause.proofs.conditions.against_rows.Goals as goal

pub loop-f-init : goal.loop-f-init
loop-f-init c = joined-none _ _ _ _ _

pub loop-f-preserved : goal.loop-f-preserved
loop-f-preserved c = grind (arith, common_steps, joined-more)

pub returns : goal.returns
returns c = joined-all _ _ _ _ _ _ c.loop-f.f c.loop-f.invariant (search rules)
