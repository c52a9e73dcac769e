-- `tables::preparing::note_rows` meets its contract: the search for a label goes on where that for the label before it ended.
use Rattle.std.proofs.Common.{ap, ℕ, ◌+◌, ◌*◌, ◌<◌, arith}
use Rattle.std.proofs.lemmas.Grind.{common_steps}
use Rattle.tables.proofs.Noted.{rows-inside}
use Rattle.tables.proofs.NotingCases.{counted-end, notes-start, notes-small, notes-turn}
use Rattle.tables.proofs.preparing.note_rows.Goals as goal

pub byte-requires : goal.byte-requires
byte-requires c = omega (arith, rows-inside c.args.table.now c.requires)

pub byte-last-requires : goal.byte-last-requires
byte-last-requires c = omega (arith, rows-inside c.args.table.now c.requires)

pub rows_from-f-requires : goal.rows_from-f-requires
rows_from-f-requires c = omega (arith, rows-inside c.args.table.now c.requires)

pub pair-requires : goal.pair-requires
pair-requires c = omega (arith, rows-inside c.args.table.now c.requires)

pub skip_below-f-requires-clause-in_order : goal.skip_below-f-requires-clause-in_order
skip_below-f-requires-clause-in_order c = grind (arith, common_steps, counted-end)

pub skip_below-f-requires-clause-inside : goal.skip_below-f-requires-clause-inside
skip_below-f-requires-clause-inside c =
    omega (arith, c.loop-l.auto.table, counted-end _ c.requires _ _ c.rows_from-f.ensures c.pair.ensures)

pub loop-l-init : goal.loop-l-init
loop-l-init c = notes-start _ c.requires _ c.rows_from-f.ensures

pub overflow_cast-table-in-loop-l : goal.overflow_cast-table-in-loop-l
overflow_cast-table-in-loop-l c =
    let small : c.skip_below-f.result < 65536 = let bytes = c.slice_known-1 in
    notes-small _ c.requires c.loop-l.invariant (counted-end _ c.requires _ _ c.rows_from-f.ensures c.pair.ensures) c.skip_below-f.ensures (omega (arith, bytes.given 2)) in
    omega (arith, small)

pub loop-l-preserved : goal.loop-l-preserved
loop-l-preserved c =
    let l = c.loop-l.l in
    notes-turn _ c.requires c.loop-l.invariant (counted-end _ c.requires _ _ c.rows_from-f.ensures c.pair.ensures) c.skip_below-f.ensures _
    (ap (λ (n : ℕ). 10 * (1 + n + l)) c.byte.ensures) (omega (arith, c.byte-last.ensures))
