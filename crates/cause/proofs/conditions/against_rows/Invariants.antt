-- `cause::conditions::against_rows` meets its contract: the conditions of the rows passed stand in the mask.
use Rattle.cause.proofs.ConditionCases.{JoinedMask}
use Rattle.cause.proofs.conditions.against_rows.Given as goal

abbrev pub invariant-loop-f : goal.invariant-loop-f
invariant-loop-f l = JoinedMask l.table l.word l.bit l.first l.end l.mask l.f

abbrev pub decreases-loop-f : goal.decreases-loop-f
decreases-loop-f l = l.f
