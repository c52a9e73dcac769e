-- `minimising::minimise` meets its contract: the image is refused, or its table is made smaller.
use Rattle.tables.proofs.Made.{noted-made}
use Rattle.minimising.proofs.EntryCases.{image-refused, made-prepared, image-made-smaller}
use Rattle.std.proofs.lemmas.Result.{err_from_is_err_and}
use Rattle.minimising.proofs.minimise.Goals as goal

pub returns-in_err-table : goal.returns-in_err-table
returns-in_err-table c =
    let p = err_from_is_err_and c.from_residual.result c.from_residual.ensures.1 in
    rw (p.1, p.2) (image-refused _ _ _ c.in_err-table.ensures.refuses)

pub minimise_table-requires : goal.minimise_table-requires
minimise_table-requires c =
    let e = c.in_ok-table.ensures in made-prepared _ _ (noted-made _ _ e.admits.accepted e.noted)

pub returns : goal.returns
returns c =
    let e = c.in_ok-table.ensures in image-made-smaller _ _ (noted-made _ _ e.admits.accepted e.noted) _ _ _ c.minimise_table.ensures
