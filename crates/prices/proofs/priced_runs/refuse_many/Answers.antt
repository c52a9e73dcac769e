-- `prices::priced_runs::refuse_many` meets its contract: what refuses a run of no words, or 27.
use Rattle.prices.proofs.priced_runs.EntryCases.{many-before, many-itself}
use Rattle.std.proofs.lemmas.Result.{err_from_is_err_and}
use Rattle.prices.proofs.priced_runs.refuse_many.Goals as goal

pub returns-in_err-run : goal.returns-in_err-run
returns-in_err-run c =
    let p = err_from_is_err_and c.from_residual.result c.from_residual.ensures.1 in
    rw (p.1, p.2) (many-before _ _ _ _ c.run.ensures.answered c.in_err-run.was)

pub returns : goal.returns
returns c = many-itself _ _ _ _ c.run.ensures.answered c.in_ok-run.was
