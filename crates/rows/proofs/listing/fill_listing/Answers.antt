use Rattle.rows.proofs.listing.FillCases.{filling-start, filling-on, filling-all}
use Rattle.std.proofs.Common.{rules}
use Rattle.rows.proofs.listing.fill_listing.Goals as goal

pub loop-l-init : goal.loop-l-init
loop-l-init c = filling-start _ _ _

pub loop-l-preserved : goal.loop-l-preserved
loop-l-preserved c =
    let loop = c.loop-l in
    filling-on _ _ _ (search rules) (search rules) loop.firsts loop.counts _ loop.invariant (search rules) _ c.rows_of-rows.ensures

pub returns : goal.returns
returns c =
    let loop = c.loop-l in
    let filled = filling-all _ _ _ loop.firsts loop.counts _ loop.invariant (search rules) in
    record { firsts = filled.0; counts = filled.1 }
