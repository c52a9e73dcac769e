-- `fillings::fill_lists::tally_all` meets its contract: the lists that begin with one word more add what its tick says of them.
use Rattle.std.proofs.Common.{◌-◌, ◌∙◌, ap, arith, rules}
use Rattle.tables.specs.Table.{table_image}
use Rattle.state.specs.Kept.{view}
use Rattle.ticks.proofs.TickCases.{stands-on}
use Rattle.fillings.specs.inner.TallyContracts.{tally_sum}
use Rattle.fillings.proofs.fill_lists.Turns.{over-none, last-word, fork-room, left-few, part-first, went-room, went-on, stood-small, stood-room, stood-on, part-over}
use Rattle.fillings.proofs.fill_lists.+tally_all.Goals as goal

pub returns-then-n-eq0 : goal.returns-then-n-eq0
returns-then-n-eq0 t c =
    c.add_lists.ensures
    ∙ ap (tally_sum c.args.tally.now) (over-none (table_image c.args.table.now.bytes.now) (view c.args.state.now) c.args.n c.args.k c.args.each c.if-n-eq0.true)

pub returns-in-Some : goal.returns-in-Some
returns-in-Some t c =
    c.tally_last.ensures
    ∙ ap (tally_sum c.args.tally.now) (last-word c.args.table.now.bytes.now (view c.args.state.now) c.args.n _ c.args.k c.args.each _ c.in-Some.ensures (omega arith) c.if-left-eq0.true)

pub fork_of-fork-requires-clause-few : goal.fork_of-fork-requires-clause-few
fork_of-fork-requires-clause-few t c = fork-room c.args.n c.args.k c.args.each _ (omega arith) c.requires.few.ended

pub loop-word-init : goal.loop-word-init
loop-word-init t c =
    let short = (left-few c.args.n c.args.k (c.args.n - 1) (omega arith) c.requires.few_bits).1 in
    rw c.fork_of-fork.ensures (part-first _ _ _ _ _ _ _ c.leaving_of-leaving.result _ c.requires.depth (omega arith) c.requires.few_bits short
    c.requires.few c.leaving_of-leaving.ensures c.power-lists.ensures)

pub tally_all-requires : goal.tally_all-requires
tally_all-requires t c =
    let inv = c.loop-word.invariant in
    (omega (arith, inv.whole, c.decreases), (stands-on _ _ _ inv.depth _ _ _ c.in-Ok.ensures, ((left-few _ _ _ inv.whole inv.few).0, went-room inv (search rules))))

pub loop-word-preserved-in-Ok : goal.loop-word-preserved-in-Ok
loop-word-preserved-in-Ok t c =
    went-on c.loop-word.invariant (search rules) _ _ _ c.in-Ok.ensures _ c.tally_all.ensures

pub overflow_mul-fork : goal.overflow_mul-fork
overflow_mul-fork t c = omega (arith, stood-small c.loop-word.invariant (search rules))

pub add_lists-requires-in-Err : goal.add_lists-requires-in-Err
add_lists-requires-in-Err t c = stood-room c.loop-word.invariant (search rules) _

pub loop-word-preserved : goal.loop-word-preserved
loop-word-preserved t c =
    stood-on c.loop-word.invariant (search rules) _ c.in-Err.ensures.stops _ c.add_lists-in-Err.ensures

pub returns : goal.returns
returns t c = part-over c.loop-word.invariant (search rules)
