-- `rows::compare_rows` meets its contract: the best row so far, with those still to come, is the best of all.
use Rattle.std.proofs.Common.{◌+◌, ◌%◌, sym, subst}
use Rattle.rows.specs.inner.Search.{swapped_word}
use Rattle.rows.proofs.SearchCases.{Comparing, comparing-other, comparing-own, reached-over}
use Rattle.rows.proofs.compare_rows.Goals.{else-is_matching, then-is_matching}
use Rattle.rows.proofs.compare_rows.Goals as goal

pub loop-frame-preserved : goal.loop-frame-preserved
loop-frame-preserved c =
    let given = c.args in
    let loop = c.loop-frame in
    let on = Comparing given.bytes.now (swapped_word (given.swapped % 65536)) given.bit given.found given.first given.end (loop.frame + 1) in
    elim c.if-is_matching.branch [
      | then-is_matching z ↦ subst on (sym z.best-is)
          (comparing-own _ _ _ _ _ _ _ _ loop.invariant c.loop-frame-test.true _ c.is_matching.ensures z.if-is_matching.true _
          z.better_row-best.ensures.better z.better_row-best.ensures.counted)
      | else-is_matching z ↦ subst on (sym z.best-is)
          (comparing-other _ _ _ _ _ _ _ _ loop.invariant c.loop-frame-test.true _ c.is_matching.ensures z.if-is_matching.false)
    ]

pub returns : goal.returns
returns c = record {
  inside = c.loop-frame.invariant.counted.inside;
  best = λ l d. reached-over c.args.bytes.now l (swapped_word (c.args.swapped % 65536)) c.args.bit c.args.first c.args.end _ _ (c.loop-frame.invariant.reached l d) c.loop-frame-test.false;
}
