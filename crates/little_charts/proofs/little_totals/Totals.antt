-- How many little charts there are of 2, 3 and 4 frames, and some of the last: the search is computed, which finds all of them.
use Rattle.std.proofs.Common.{◌≡◌, refl, sym, ◌∙◌, ap, [], ◌++◌, arith, length}
use Rattle.words.specs.lists.Numbers.{any, lowest, count, highest}
use Rattle.words.specs.graph.Reach.{reach}
use Rattle.charts.specs.Chart.{node_of}
use Rattle.charts.specs.Check.{has_bad_field, chart_verdict}
use Rattle.little_charts.specs.Little.{begin_node, end_node, operation_node, condition_node, little_charts}
use Rattle.little_charts.specs.Promises.{little_total, Totals}
use Rattle.little_charts.specs.inner.Search.{node_at, is_barred_node, searched_charts}
use Rattle.little_charts.proofs.little_search.Same.{search-lists}
use Rattle.little_charts.specs.inner.Samples.{Samples, samples}

found-two : length (searched_charts 2 2 []) ≡ 2
unfolding any lowest count highest reach node_of has_bad_field chart_verdict node_at is_barred_node searched_charts
found-two = refl

found-three : length (searched_charts 3 3 []) ≡ 18
unfolding any lowest count highest reach node_of has_bad_field chart_verdict node_at is_barred_node searched_charts
found-three = refl

abbrev pub four : Samples
four = record {
  count = 648;
  first = begin_node 1 ++ (operation_node 2 0 ++ (operation_node 3 0 ++ end_node));
  middle = operation_node 0 0 ++ (begin_node 2 ++ (condition_node 0 3 ++ end_node));
  last = condition_node 3 3 ++ (condition_node 3 0 ++ (begin_node 1 ++ end_node));
}

found-four : samples 324 647 (searched_charts 4 4 []) ≡ four
unfolding any lowest count highest reach node_of has_bad_field chart_verdict node_at is_barred_node searched_charts samples
found-four = refl

pub total-two : little_total 2 ≡ 2
total-two = sym (ap length (search-lists 2 (omega arith) (omega arith))) ∙ found-two

pub total-three : little_total 3 ≡ 18
total-three = sym (ap length (search-lists 3 (omega arith) (omega arith))) ∙ found-three

-- of four frames: how many, and numbers 0, 324 and 647
pub samples-four : samples 324 647 (little_charts 4) ≡ four
samples-four = sym (ap (samples 324 647) (search-lists 4 (omega arith) (omega arith))) ∙ found-four

pub total-four : little_total 4 ≡ 648
unfolding samples
total-four = ap (λ (s : Samples). s.count) samples-four

pub totals : Totals
totals = (total-two, total-three, total-four)
