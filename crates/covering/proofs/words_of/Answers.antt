-- `covering::words_of` meets its contract: no word for the other bit, else 2 to the power of the free bits.
use Rattle.covering.proofs.CoverCases.{words-on}
use Rattle.covering.proofs.words_of.Goals as goal

pub returns : goal.returns
returns c =
    let given = c.args in
    let words = words-on given.table.now given.f given.bit _ _ _ c.byte.ensures c.suits.ensures c.if-not-suits.false c.pair-care.ensures in
    record { number = words.0; most = words.1 }
