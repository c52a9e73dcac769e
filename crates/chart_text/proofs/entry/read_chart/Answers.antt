-- `chart_text::entry::read_chart` meets its contract: each return is a case of the definition.
use Rattle.std.proofs.Common.{arith}
use Rattle.chart_text.proofs.Entries.{Formed, formed, chart-length, read-unformed, read-unsound, read-short, read-done}
use Rattle.std.proofs.lemmas.Result.{err_from_is_err_and}
use Rattle.chart_text.proofs.entry.read_chart.Goals as goal
use Rattle.chart_text.proofs.entry.read_chart.Goals.{In_ok-count}

pub returns-in_err-count : goal.returns-in_err-count
returns-in_err-count c =
    let p = err_from_is_err_and c.from_residual.result c.from_residual.ensures.1 in
    rw (p.1, p.2) (read-unformed _ _ c.read_text.ensures.answered c.in_err-count.was)

-- what every return after the text was read knows
read : (c : In_ok-count) → Formed c.args.text.now c.read_text.new.out c.in_ok-count.count
read c = formed _ _ c.read_text.ensures.answered c.in_ok-count.was c.read_text.ensures.stored

pub slice_bounds-table-end : goal.slice_bounds-table-end
slice_bounds-table-end c =
    let known = read (goal.at.slice_bounds-table-end c).In_ok-count in
    omega (arith, known.few, c.read_text.auto.out)

pub slice_bounds-records-end : goal.slice_bounds-records-end
slice_bounds-records-end c = chart-length (read (goal.at.slice_bounds-records-end c).In_ok-count)

pub returns-in_err-check_chart : goal.returns-in_err-check_chart
returns-in_err-check_chart c =
    let p = err_from_is_err_and c.from_residual-in_err-check_chart.result c.from_residual-in_err-check_chart.ensures.1 in
    let known = read (goal.at.returns-in_err-check_chart c).In_ok-count in
    rw (p.1, p.2) (read-unsound _ _ known c.check_chart.ensures c.in_err-check_chart.was)

pub returns-then-out-end : goal.returns-then-out-end
returns-then-out-end c =
    let known = read (goal.at.returns-then-out-end c).In_ok-count in
    read-short _ _ known c.check_chart.ensures c.in_ok-check_chart.was c.if-out-end.true

pub returns : goal.returns
returns c =
    let known = read (goal.at.returns c).In_ok-count in
    read-done _ _ known c.check_chart.ensures c.in_ok-check_chart.was c.if-out-end.false c.put_bytes.ensures
