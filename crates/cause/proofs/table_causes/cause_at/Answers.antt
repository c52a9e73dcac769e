-- `cause::table_causes::cause_at` meets its contract: the row that the search finds among the label's frames, or none.
use Rattle.std.proofs.Common.{◌≤◌, arith}
use Rattle.std.proofs.lemmas.Grind.{common_steps}
use Rattle.image.specs.Decode.{last_label}
use Rattle.rows.proofs.SearchCases.{end-within}
use Rattle.state.specs.Kept.{view}
use Rattle.cause.proofs.table_causes.TableConditions.{rows-kept}
use Rattle.cause.proofs.table_causes.CauseCases.{none-told, numbers, row-told}
use Rattle.cause.proofs.table_causes.cause_at.Goals as goal

pub returns-then-table-found : goal.returns-then-table-found
returns-then-table-found c = grind (arith, common_steps, none-told, c.args.table.last_read, c.args.table.whole)

pub against_rows-others-requires : goal.against_rows-others-requires
against_rows-others-requires c =
    let high : c.args.l ≤ last_label c.args.table.bytes.now = omega (arith, c.requires.high, c.args.table.last_read) in
    record {
      inside = end-within _ _ _ c.args.table.whole c.end_of-end.ensures;
      kept = λ f p q. rows-kept _ _ c.requires.ordered.sound c.requires.low high f (omega (arith, c.first_of-first.ensures))
          (omega (arith, c.end_of-end.ensures));
    }

pub overflow_sub-row : goal.overflow_sub-row
overflow_sub-row c =
    let high : c.args.l ≤ last_label c.args.table.bytes.now = omega (arith, c.requires.high, c.args.table.last_read) in
    let n = numbers _ _ _ c.requires.low high c.requires.ordered (view c.args.state.now).bits _ (grind (arith, common_steps))
    c.args.table.whole c.args.table.small _ c.find_row-found.ensures (omega (arith, c.args.table.frames_read, c.args.table.whole.alone, c.if-table-found.false)) in
    omega (arith, n.least, c.rows_from-from.ensures)

pub returns : goal.returns
returns c = grind (arith, common_steps, row-told, c.args.table.last_read)
