-- `chart_rows::number_nodes`: one more number stands behind the labels.
use Rattle.std.proofs.Common.{arith, rules}
use Rattle.words.proofs.lists.Fills.{values-none, values-turn}
use Rattle.chart_rows.proofs.NumberLaws.{numbering-start, numbering-on}
use Rattle.chart_rows.proofs.numbers.number_nodes.Goals as goal

pub loop-v-init : goal.loop-v-init
loop-v-init c = record { noted = numbering-start _ _ c.requires.charted; written = values-none _ _ _ _ }

pub loop-v-preserved : goal.loop-v-preserved
loop-v-preserved c = record {
  noted = numbering-on _ _ _ _ c.requires.room c.loop-v.invariant.noted (search rules) _ c.number_of-number.ensures;
  written = values-turn _ _ _ _ _ _ _ (omega (arith, c.requires.room, c.requires.charted.ready.few)) c.loop-v.invariant.written
      (search rules) c.number_of-number.ensures;
}
