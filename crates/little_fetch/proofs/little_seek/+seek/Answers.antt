use Rattle.std.proofs.Common.{rules, sym, ◌∙◌}
use Rattle.little_fetch.proofs.little_seek.Turns.{last-found, last-passed, seeking-first, seeking-done, seeking-barred, seeking-cut, seeking-on}
use Rattle.little_fetch.proofs.little_seek.Turns.{seeking-found, seeking-as}
use Rattle.little_fetch.proofs.little_seek.+seek.Goals as goal
use Rattle.little_fetch.proofs.little_seek.+seek.Goals.{then-not-is_barred+then-not-is_cut_off+then-v-n+in-Err, then-not-is_barred+then-not-is_cut_off+else-v-n+else-rest-eq0}
use Rattle.little_fetch.proofs.little_seek.+seek.Goals.{then-not-is_barred+else-not-is_cut_off, else-not-is_barred}

pub loop-i-init : goal.loop-i-init
loop-i-init t c = seeking-first _ _ _ _ c.requires.inside c.first_number-i.ensures c.past_number-past.ensures

pub returns-then-rest-eq0 : goal.returns-then-rest-eq0
returns-then-rest-eq0 t c =
    seeking-found c.loop-i.invariant c.loop-i-test.true c.led_to-led.ensures c.is_barred.ensures c.if-not-is_barred.true
    c.with_node-next.ensures c.is_cut_off.ensures c.if-not-is_cut_off.true (last-found _ _ _ _ c.if-v-n.false c.if-rest-eq0.true)

pub returns-in-Ok : goal.returns-in-Ok
returns-in-Ok t c =
    seeking-found c.loop-i.invariant c.loop-i-test.true c.led_to-led.ensures c.is_barred.ensures c.if-not-is_barred.true
    c.with_node-next.ensures c.is_cut_off.ensures c.if-not-is_cut_off.true (sym c.in-Ok.is ∙ c.seek.ensures)

pub loop-i-preserved : goal.loop-i-preserved
loop-i-preserved t c = elim c.if-not-is_barred.branch [
  | then-not-is_barred+then-not-is_cut_off+then-v-n+in-Err w ↦ seeking-as
      (seeking-on c.loop-i.invariant c.loop-i-test.true c.led_to-led.ensures c.is_barred.ensures w.if-not-is_barred.true
      w.with_node-next.ensures w.is_cut_off.ensures w.if-not-is_cut_off.true (sym w.in-Err.is ∙ w.seek.ensures)) w.rest-is
  | then-not-is_barred+then-not-is_cut_off+else-v-n+else-rest-eq0 w ↦ seeking-as
      (seeking-on c.loop-i.invariant c.loop-i-test.true c.led_to-led.ensures c.is_barred.ensures w.if-not-is_barred.true
      w.with_node-next.ensures w.is_cut_off.ensures w.if-not-is_cut_off.true (last-passed _ _ _ _ w.if-v-n.false w.if-rest-eq0.false)) w.rest-is
  | then-not-is_barred+else-not-is_cut_off w ↦ seeking-as
      (seeking-cut c.loop-i.invariant c.loop-i-test.true c.led_to-led.ensures c.is_barred.ensures w.if-not-is_barred.true
      w.with_node-next.ensures w.is_cut_off.ensures w.if-not-is_cut_off.false) w.rest-is
  | else-not-is_barred w ↦ seeking-as
      (seeking-barred c.loop-i.invariant c.loop-i-test.true c.led_to-led.ensures c.is_barred.ensures w.if-not-is_barred.false) w.rest-is
]

pub returns : goal.returns
returns t c = seeking-done c.loop-i.invariant (search rules)
