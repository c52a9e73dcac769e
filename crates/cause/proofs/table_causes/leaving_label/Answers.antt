-- `cause::table_causes::leaving_label` meets its contract: by the tick kind of the top, and by the depth on a return.
use Rattle.std.proofs.Common.{arith}
use Rattle.std.proofs.lemmas.Grind.{common_steps}
use Rattle.cause.proofs.table_causes.CauseCases.{left-plain, left-other, left-last, left-beneath}
use Rattle.cause.proofs.table_causes.leaving_label.Goals as goal

pub returns-then-kind-eq-PLAIN : goal.returns-then-kind-eq-PLAIN
returns-then-kind-eq-PLAIN c = grind (arith, common_steps, left-plain)

pub returns-then-kind-ne-RETURN : goal.returns-then-kind-ne-RETURN
returns-then-kind-ne-RETURN c = grind (arith, common_steps, left-other)

pub returns-then-depth-le1 : goal.returns-then-depth-le1
returns-then-depth-le1 c = grind (arith, common_steps, left-last)

pub returns : goal.returns
returns c = grind (arith, common_steps, left-beneath)
