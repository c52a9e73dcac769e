-- `translator::put_table`: entries, labels 0 and 1, the other labels, rows, each where the one before ends; then the header.
use Rattle.std.proofs.Common.{arith}
use Rattle.chart_rows.proofs.chart_labels.ReadyLaws.{ready-facts}
use Rattle.chart_rows.proofs.chart_labels.LabelSteps.{few-numbered}
use Rattle.translator.proofs.ImageSteps.{labels-long, rows-long, rows-put, table-put}
use Rattle.translator.proofs.table.put_table.Goals as goal

pub put_labels-requires : goal.put_labels-requires
put_labels-requires c =
    let pre = c.requires in
    record { charted = pre.noted.chart; room = omega (arith, labels-long c.args.records.now, pre.sizes.owned, pre.room) }

pub put_rows-end-requires : goal.put_rows-end-requires
put_rows-end-requires c =
    let pre = c.requires in
    record { noted = pre.noted; room = omega (arith, rows-long c.args.records.now, pre.room) }

pub overflow_cast-own : goal.overflow_cast-own
overflow_cast-own c =
    let pre = c.requires in
    let ready = pre.noted.chart.ready in
    omega (arith, few-numbered _ (ready-facts ready), ready.few, pre.sizes.owned)

pub put_header-requires : goal.put_header-requires
put_header-requires c =
    let pre = c.requires in
    record { room = omega (arith, pre.room); rows_fit = omega (arith, rows-put _ _ _ _ pre.sizes _ _ c.put_rows-end.ensures.ends, pre.few) }

pub returns : goal.returns
returns c =
    let pre = c.requires in
    table-put _ _ _ _ pre.sizes pre.room (rows-put _ _ _ _ pre.sizes _ _ c.put_rows-end.ensures.ends)
    c.handler_scheme-handler.ensures
    c.put_entries.ensures c.put_fixed.ensures c.put_labels.ensures
    c.put_rows-end.ensures c.put_header.ensures
