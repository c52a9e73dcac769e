-- `places::places_needed` meets its contract: the reader's refusal, 10, 20, or the number.
use Rattle.std.proofs.Common.{sym, arith}
use Rattle.std.proofs.lemmas.Result.{err_from_is_err_and}
use Rattle.translator.proofs.EntrySteps.{zeros-long, Read, read-told, read-long, read-ready}
use Rattle.places.proofs.EntrySteps.{needed-unread, needed-wide, needed-circle, needed-done}
use Rattle.places.proofs.entry.places_needed.Goals as goal
use Rattle.places.proofs.entry.places_needed.Goals.{In_ok-count}

pub returns-in_err-count : goal.returns-in_err-count
returns-in_err-count c =
    let p = err_from_is_err_and c.from_residual.result c.from_residual.ensures.1 in
    rw (p.1, p.2) (needed-unread _ _ c.read_chart.ensures zeros-long c.in_err-count.was)

-- what is known once the chart was read
read : (c : In_ok-count) → Read c.args.text.now c.read_chart.new.out c.in_ok-count.count
read c = read-told _ _ c.read_chart.ensures c.in_ok-count.was

pub overflow_mul-end : goal.overflow_mul-end
overflow_mul-end c = let known = read (goal.at.overflow_mul-end c).In_ok-count in omega (arith, known.few)

pub slice_bounds-held-end : goal.slice_bounds-held-end
slice_bounds-held-end c = let known = read (goal.at.slice_bounds-held-end c).In_ok-count in omega (arith, known.few, c.read_chart.auto.out)

pub slice_bounds-records-end : goal.slice_bounds-records-end
slice_bounds-records-end c = sym (read-long (read (goal.at.slice_bounds-records-end c).In_ok-count))

pub too_many_rows-requires : goal.too_many_rows-requires
too_many_rows-requires c = read-ready (read (goal.at.too_many_rows-requires c).In_ok-count)

pub returns-then-too_many_rows : goal.returns-then-too_many_rows
returns-then-too_many_rows c =
    needed-wide (read (goal.at.returns-then-too_many_rows c).In_ok-count) c.too_many_rows.ensures c.if-too_many_rows.true

pub longest_chain-requires : goal.longest_chain-requires
longest_chain-requires c = read-ready (read (goal.at.longest_chain-requires c).In_ok-count)

pub returns-in_default : goal.returns-in_default
returns-in_default c =
    needed-circle (read (goal.at.returns-in_default c).In_ok-count) c.too_many_rows.ensures c.if-too_many_rows.false
    c.longest_chain.ensures c.in_default.is

pub returns : goal.returns
returns c =
    needed-done (read (goal.at.returns c).In_ok-count) c.too_many_rows.ensures c.if-too_many_rows.false
    c.longest_chain.ensures c.in-Some.is
