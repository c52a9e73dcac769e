-- `cause::table_causes::cause_table` meets its contract: an unfit state, a tick that takes no row, or the cause at the label left.
use Rattle.std.proofs.Common.{sym, ◌∙◌, subst, arith, rules}
use Rattle.std.proofs.lemmas.Grind.{common_steps}
use Rattle.state.specs.Kept.{view}
use Rattle.cause.specs.Cause.{CauseOutcome, GivesCause}
use Rattle.cause.proofs.table_causes.CauseCases.{rowless-told, some-left}
use Rattle.cause.proofs.table_causes.cause_table.Goals as goal

pub returns-then-l-eq0 : goal.returns-then-l-eq0
returns-then-l-eq0 c = grind (arith, common_steps, rowless-told)

pub cause_at-requires-clause-low : goal.cause_at-requires-clause-low
cause_at-requires-clause-low c =
    let left = some-left _ (view c.args.state) (search rules) c.args.word c.requires (sym c.is_unfit.ensures ∙ c.if-is_unfit.false)
    _ c.leaving_label-l.ensures c.if-l-eq0.false in
    left.low

pub cause_at-requires-clause-high : goal.cause_at-requires-clause-high
cause_at-requires-clause-high c =
    let left = some-left _ (view c.args.state) (search rules) c.args.word c.requires (sym c.is_unfit.ensures ∙ c.if-is_unfit.false)
    _ c.leaving_label-l.ensures c.if-l-eq0.false in
    omega (arith, left.high, c.args.table.now.last_read)

pub returns : goal.returns
returns c =
    let left = some-left _ (view c.args.state) (search rules) c.args.word c.requires (sym c.is_unfit.ensures ∙ c.if-is_unfit.false)
    _ c.leaving_label-l.ensures c.if-l-eq0.false in
    subst (λ (x : CauseOutcome). GivesCause x c.cause_at.result) (sym left.told) c.cause_at.ensures
