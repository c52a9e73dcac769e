-- `cause::conditions::against_row` meets its contract: a row that the word alone shuts out has a contradicting condition.
use Rattle.std.proofs.Common.{arith}
use Rattle.cause.proofs.ConditionCases.{low-condition}
use Rattle.cause.proofs.conditions.against_row.Goals as goal

pub with_bit-requires : goal.with_bit-requires
with_bit-requires c =
    low-condition _ _ c.args.word c.args.bit c.requires
    (λ k. omega (arith, c.type_inv.table k)) _ _
    c.byte.ensures c.lets_through.ensures c.if-not-lets_through.false
    _ _ c.pair-care.ensures c.pair-values.ensures
    c.if-word-care.false _ c.lowest_differing.ensures
