-- `rebinding::in_place::rebind` meets its contract: the source is refused, or the rebinding is that on its table.
use Rattle.std.proofs.Common.{arith}
use Rattle.std.proofs.lemmas.Grind.{common_steps}
use Rattle.std.proofs.lemmas.Result.{err_from_is_err_and}
use Rattle.rebinding.proofs.EntryCases.{refused-rebinds}
use Rattle.rebinding.proofs.in_place.rebind.Goals as goal

pub table-requires : goal.table-requires
table-requires g c = omega (arith, g.met.S.Source.room_fits)

pub returns-in_err-table : goal.returns-in_err-table
returns-in_err-table g c =
    let p = err_from_is_err_and c.from_residual.result c.from_residual.ensures.1 in
    rw (p.1, p.2) (refused-rebinds _ _ _ _ _ _ c.in_err-table.ensures.refuses (g.met.S.Source.early _))

pub returns : goal.returns
returns g c = grind (arith, common_steps)
