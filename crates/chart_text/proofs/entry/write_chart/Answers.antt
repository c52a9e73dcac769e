-- `chart_text::entry::write_chart` meets its contract: what the buffer holds once the text is known; the checker finds the refusals.
use Rattle.chart_text.proofs.Entries.{whole, write-short, write-done}
use Rattle.chart_text.proofs.entry.write_chart.Goals as goal

pub returns-then-out-count : goal.returns-then-out-count
returns-then-out-count c =
    let known = whole c.bad_length.ensures c.if-bad_length.false in
    write-short _ _ known _ c.check_chart.ensures _ c.in_ok-check_chart.was c.if-out-count.true

pub returns : goal.returns
returns c =
    let known = whole c.bad_length.ensures c.if-bad_length.false in
    write-done _ _ known _ c.check_chart.ensures _ c.in_ok-check_chart.was c.if-out-count.false _ c.put_text.ensures
