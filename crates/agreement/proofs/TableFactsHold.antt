-- The facts that the simulation takes of a chart's table hold for every accepted text.
use Rattle.std.proofs.Common.{◌≡◌, sym, ◌∙◌, ap, List, [], ◌∷◌, ℕ, suc, ◌-◌, arith, length, filter}
use Rattle.std.proofs.Math.ListN.{length-map}
use Rattle.words.proofs.lists.Filters.{none-passes}
use Rattle.text.specs.frames.Frame.{contents}
use Rattle.text.specs.frames.Verdict.{fine}
use Rattle.charts.specs.Chart.{Chart}
use Rattle.charts.specs.Entry.{read_verdict}
use Rattle.charts.proofs.Accepted.{SoundChart, accepted}
use Rattle.walk.proofs.Facts.{Facts}
use Rattle.walk.proofs.FactsHold.{facts}
use Rattle.image.specs.Image.{Row, no_row}
use Rattle.chart_rows.specs.Labels.{entry}
use Rattle.translator.proofs.LabelLaws.{label-low, label-inside, label-holds, labels-apart, label-home, label-return, labels-two}
use Rattle.translator.proofs.LabelLaws.{labels-few, entry-holds}
use Rattle.translator.proofs.Matching.{is_matching_row, targets, targets-none, targets-own, targets-other}
use Rattle.translator.proofs.RowLaws.{row-plain, row-begin, row-condition, row-function}
use Rattle.rows.specs.Rows.{no_choice, best_row, found, lead_of}
use Rattle.rows.proofs.ChoiceLaws.{best-own, best-other}
use Rattle.rows.proofs.BestRows.{best-none}
use Rattle.agreement.proofs.TableFacts.{TableFacts}

-- no row matches, so none is taken
none-taken : (l w b k : ℕ) (rs : List Row) → targets l w b rs ≡ [] → best_row l w b k rs ≡ no_choice
unfolding targets
none-taken l w b k rs e =
    best-none l w b k rs
    (none-passes (is_matching_row l w b) no_row rs
    (sym (length-map (filter (is_matching_row l w b) rs) (λ (r : Row). r.next)) ∙ ap (λ (us : List ℕ). length us) e))

-- just one row matches, so it is taken
pub best-only : (l w b k u : ℕ) (rs : List Row) → targets l w b rs ≡ u ∷ [] → lead_of (best_row l w b k rs) ≡ found u
best-only l w b k u [] e = search (arith, targets-none)
best-only l w b k u (r ∷ rs) e = search (arith, best-only l w b (suc k) u rs, targets-own, targets-other, best-own, best-other, is_matching_row, none-taken)

pub table-facts-of : (c : Chart) → SoundChart c → Facts c → TableFacts c
table-facts-of c s f = record {
  highest = (labels-two c, labels-few c f);
  labels0 = label-home c;
  labels1 = label-return c;
  numbers = λ v l e. (label-low c v e, label-inside c v l e, label-holds c v l e);
  apart = λ u v lu lv a b e. labels-apart c u v a b e;
  entries = λ h l m. entry-holds c (h - 1) (omega arith) ∙ ap (entry c) (omega arith);
  row-plain = λ v w b l k. best-only _ w b 0 _ _ (row-plain c s v w b l k);
  row-begin = λ v w b l k t. best-only _ w b 0 _ _ (row-begin c s v w b l k t);
  row-condition = λ v w b l k t. best-only _ w b 0 _ _ (row-condition c s v w b l k t);
  row-function = λ v w b l k. best-only _ w _ 0 _ _ (row-function c s v w b l k);
}

pub table-facts : (t : List ℕ) → read_verdict t ≡ fine → TableFacts (contents t)
table-facts t e = table-facts-of (contents t) (accepted t e).sound (facts t e)
