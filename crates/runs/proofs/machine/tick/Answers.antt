-- `runs::machine::tick` meets its contract: the source is refused, or the tick is that on its table.
use Rattle.std.proofs.lemmas.Result.{err_from_is_err_and}
use Rattle.runs.proofs.machine.EntryCases.{refused-ticks}
use Rattle.runs.proofs.machine.tick.Goals as goal

pub returns-in_err-table : goal.returns-in_err-table
returns-in_err-table g c =
    let p = err_from_is_err_and c.from_residual.result c.from_residual.ensures.1 in
    rw (p.1, p.2) (refused-ticks _ _ _ _ c.in_err-table.ensures.refuses (g.met.S.Source.early _) _)
