-- `dry_run` is its three calls.
use Rattle.std.proofs.Common.{rules}
use Rattle.translator.proofs.Translated.{done-fits, done-part}
use Rattle.dry_runs.proofs.dry_run.Goals as goal
use Rattle.dry_runs.proofs.Steps.{untranslated, unmade, ran}

pub returns-in_err-count : goal.returns-in_err-count
returns-in_err-count c = untranslated _ _ _ _ _ _ c.translate.ensures c.in_err-count.was (search rules)

pub returns-in_err-made : goal.returns-in_err-made
returns-in_err-made c =
    unmade _ _ _ _ _ _ c.translate.ensures c.in_ok-count.was c.fresh-made.ensures c.in_err-made.was (search rules)

pub slice_bounds-written-end : goal.slice_bounds-written-end
slice_bounds-written-end c = done-fits _ _ _ _ _ c.translate.ensures.answered c.in_ok-count.was c.translate.auto.out

pub slice_bounds-written-end-2 : goal.slice_bounds-written-end-2
slice_bounds-written-end-2 c = done-part _ _ _ _ _ c.translate.ensures.answered c.in_ok-count.was c.translate.auto.out

pub returns : goal.returns
returns c =
    ran _ _ _ _ _ _ c.translate.ensures c.in_ok-count.was c.fresh-made.ensures c.run_apart-report.ensures c.in_ok-made.was
