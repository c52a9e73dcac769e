-- `cause::conditions::lowest_differing` meets its contract: the loop keeps the lowest of the conditions passed.
use Rattle.cause.proofs.ConditionCases.{PassedCondition}
use Rattle.cause.proofs.conditions.lowest_differing.Given as goal

abbrev pub invariant-loop-i : goal.invariant-loop-i
invariant-loop-i l = PassedCondition l.word l.care l.values l.low l.i

abbrev pub decreases-loop-i : goal.decreases-loop-i
decreases-loop-i l = l.i
