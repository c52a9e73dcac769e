use Rattle.std.proofs.Common.{rules, arith, refl, sym, ◌∙◌, ap}
use Rattle.std.proofs.Math.Nat.{sub-zero}
use Rattle.little_fetch.specs.inner.Trails.{trails, start}
use Rattle.little_fetch.specs.inner.SeekContracts.{sought}
use Rattle.little_fetch.proofs.little_seek.Counted.{counted}
use Rattle.little_fetch.proofs.little_seek.Turns.{seeking-first, seeking-done, seeking-past, seeking-here, begins-so}
use Rattle.little_fetch.proofs.little_seek.seek_first.Goals as goal

pub loop-i-init : goal.loop-i-init
loop-i-init c = seeking-first _ _ _ _ (search rules) refl c.past_number-past.ensures

pub returns-then-rest-count : goal.returns-then-rest-count
returns-then-rest-count c =
    let r = c.requires in
    let counts = c.charts_after-count.ensures ∙ counted c.args.n r.some r.few c.loop-i.i (omega (arith, c.loop-i-test.true, c.past_number-past.ensures)) in
    c.seek.ensures
    ∙ ap (λ xs. sought xs c.loop-i.rest) (sym (begins-so c.loop-i.invariant c.loop-i-test.true c.led_to-led.ensures
    c.with_node-next.ensures (omega (arith, counts, c.if-rest-count.true))))
    ∙ seeking-here c.loop-i.invariant c.loop-i-test.true counts c.if-rest-count.true
    ∙ ap (λ m. sought (trails c.args.n m start) c.args.number) (sub-zero c.args.n)

pub loop-i-preserved : goal.loop-i-preserved
loop-i-preserved c =
    let r = c.requires in
    seeking-past c.loop-i.invariant c.loop-i-test.true
    (c.charts_after-count.ensures ∙ counted c.args.n r.some r.few c.loop-i.i (omega (arith, c.loop-i-test.true, c.past_number-past.ensures)))
    c.if-rest-count.false

pub returns : goal.returns
returns c =
    seeking-done c.loop-i.invariant c.loop-i-test.false
    ∙ ap (λ m. sought (trails c.args.n m start) c.args.number) (sub-zero c.args.n)
