-- `fillings::counting::count_fillings` meets its contract: what refuses first, or the tally on the table of the image.
use Rattle.std.proofs.Common.{sym, ◌∙◌}
use Rattle.fillings.proofs.counting.EntryCases.{many-not, image-tells, size-tells, many-tells, all-tell}
use Rattle.std.proofs.lemmas.Result.{err_from_is_err_and}
use Rattle.fillings.proofs.counting.count_fillings.Goals as goal

pub returns-in_err-table : goal.returns-in_err-table
returns-in_err-table c =
    let p = err_from_is_err_and c.from_residual.result c.from_residual.ensures.1 in
    rw (p.1, p.2) (image-tells _ _ _ _ _ c.in_err-table.ensures.refuses)

pub returns-then-bad_size : goal.returns-then-bad_size
returns-then-bad_size c =
    size-tells _ _ _ _ c.in_ok-table.ensures.admits.accepted (sym c.bad_size.ensures ∙ c.if-bad_size.true)

pub returns-then-too_many : goal.returns-then-too_many
returns-then-too_many c =
    many-tells _ _ _ _ c.in_ok-table.ensures.admits.accepted (sym c.bad_size.ensures ∙ c.if-bad_size.false)
    (sym c.too_many.ensures ∙ c.if-too_many.true)

pub tally-requires : goal.tally-requires
tally-requires c = record {
  good_size = sym c.bad_size.ensures ∙ c.if-bad_size.false;
  few_bits = many-not _ _ (sym c.too_many.ensures ∙ c.if-too_many.false);
}

pub returns : goal.returns
returns c =
    let admits = c.in_ok-table.ensures.admits in
    all-tell _ _ _ _ admits.accepted (sym c.bad_size.ensures ∙ c.if-bad_size.false) _ admits.holds
    (sym c.too_many.ensures ∙ c.if-too_many.false) _ c.tally.ensures
