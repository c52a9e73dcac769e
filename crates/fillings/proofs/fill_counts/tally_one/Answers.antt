-- `fillings::fill_counts::tally_one` meets its contract: none of the ticks that were made was stopped.
use Rattle.std.proofs.Common.{rules, arith, ap}
use Rattle.runs.specs.inner.RunContracts.{verdict_of}
use Rattle.fillings.proofs.fill_counts.Zeros.{zeros-none, zeros-kept, zeros-over, zeros-stood, zeros-on, zeros-again}
use Rattle.fillings.proofs.fill_counts.tally_one.Goals as goal

pub loop-done-init : goal.loop-done-init
loop-done-init c = zeros-none c.args.table.now.bytes.now c.args.start c.args.n c.requires

pub returns-in-Full : goal.returns-in-Full
returns-in-Full c =
    zeros-stood c.loop-done.invariant _ _ (search rules) c.min-more.ensures c.tick_all.ensures _ (ap verdict_of c.in-Full.is) _ c.all_meet.ensures

pub returns-in-NoRow : goal.returns-in-NoRow
returns-in-NoRow c =
    zeros-stood c.loop-done.invariant _ _ (search rules) c.min-more.ensures c.tick_all.ensures _ (ap verdict_of c.in-NoRow.is)
    _ c.all_meet-in-NoRow.ensures

pub returns-then-is_same : goal.returns-then-is_same
returns-then-is_same c =
    zeros-again c.loop-done.invariant _ _ (search rules) c.min-more.ensures c.tick_all.ensures (ap verdict_of c.in-Over.is)
    (omega arith) (c.is_same.ensures.0 c.if-is_same.true) _ c.all_meet-then-is_same.ensures

pub loop-done-preserved-then-is_power_of_two : goal.loop-done-preserved-then-is_power_of_two
loop-done-preserved-then-is_power_of_two c =
    zeros-kept (zeros-on c.loop-done.invariant _ _ (search rules) c.min-more.ensures c.tick_all.ensures (ap verdict_of c.in-Over.is))

pub loop-done-preserved : goal.loop-done-preserved
loop-done-preserved c =
    zeros-on c.loop-done.invariant _ _ (search rules) c.min-more.ensures c.tick_all.ensures (ap verdict_of c.in-Over.is)

pub returns : goal.returns
returns c = zeros-over c.loop-done.invariant (search rules) _ c.all_meet-2.ensures
