-- The cases of the little charts hold: those of two and three frames are computed by the search, those of four follow from its samples.
use Rattle.std.proofs.Common.{ℕ, ◌||◌, ◌≡◌, refl, sym, ◌∙◌, ap, ap₂, List, [], ◌∷◌, ◌++◌, map, arith, length, replicate, nat_lt, nat_le, slice_index_or}
use Rattle.text.specs.frames.Frame.{text_of}
use Rattle.text.specs.frames.Verdict.{when}
use Rattle.text.specs.frames.Answer.{BufferOutcome, buffer_on}
use Rattle.charts.specs.Chart.{Chart}
use Rattle.little_charts.specs.Little.{begin_node, end_node, operation_node, condition_node, little_charts, little_text, little_verdict}
use Rattle.little_charts.specs.Little.{little_chart}
use Rattle.little_charts.specs.inner.Search.{node_at, is_barred_node, searched_charts}
use Rattle.little_charts.proofs.little_search.Same.{search-lists}
use Rattle.little_charts.specs.inner.Samples.{Samples, samples}
use Rattle.little_charts.proofs.little_totals.Totals.{samples-four, total-four}
use Rattle.bench.specs.Little.{LittleCases, texts_two, texts_three, first_four, middle_four, last_four}
use Rattle.bench.proofs.Computing.{charting}

unfoldable two : List Chart
two = (begin_node 1 ++ end_node) ∷ (end_node ++ (begin_node 0)) ∷ []

unfoldable three : List Chart
three =
    (begin_node 1 ++ (operation_node 2 0 ++ end_node))
    ∷ (begin_node 1 ++ (operation_node 2 1 ++ end_node))
    ∷ (begin_node 1 ++ (condition_node 2 2 ++ end_node))
    ∷ (begin_node 2 ++ (end_node ++ (operation_node 1 0)))
    ∷ (begin_node 2 ++ (end_node ++ (operation_node 1 1)))
    ∷ (begin_node 2 ++ (end_node ++ (condition_node 1 1)))
    ∷ (end_node ++ (begin_node 2 ++ (operation_node 0 0)))
    ∷ (end_node ++ (begin_node 2 ++ (operation_node 0 1)))
    ∷ (end_node ++ (begin_node 2 ++ (condition_node 0 0)))
    ∷ (end_node ++ (operation_node 0 0 ++ (begin_node 1)))
    ∷ (end_node ++ (operation_node 0 1 ++ (begin_node 1)))
    ∷ (end_node ++ (condition_node 0 0 ++ (begin_node 1)))
    ∷ (operation_node 1 0 ++ (end_node ++ (begin_node 0)))
    ∷ (operation_node 1 1 ++ (end_node ++ (begin_node 0)))
    ∷ (operation_node 2 0 ++ (begin_node 0 ++ end_node))
    ∷ (operation_node 2 1 ++ (begin_node 0 ++ end_node))
    ∷ (condition_node 1 1 ++ (end_node ++ (begin_node 0)))
    ∷ (condition_node 2 2 ++ (begin_node 0 ++ end_node))
    ∷ []

two-listed : little_charts 2 ≡ two
unfolding charting node_at is_barred_node searched_charts two
two-listed = sym (search-lists 2 (omega arith) (omega arith)) ∙ refl

three-listed : little_charts 3 ≡ three
unfolding charting node_at is_barred_node searched_charts three
three-listed = sym (search-lists 3 (omega arith) (omega arith)) ∙ refl

-- what is lent, by the list of charts
abbrev given : ℕ → ℕ → List Chart → List ℕ → BufferOutcome
given n k xs out = buffer_on (when 24 (nat_lt n 2 || nat_lt 4 n || nat_le (length xs) k)) 1 (λ _. text_of (slice_index_or xs k [])) out

of-two : (k : ℕ) (out : List ℕ) → little_chart 2 k out ≡ given 2 k two out
unfolding little_verdict little_chart
of-two k out = ap (λ (xs : List Chart). given 2 k xs out) two-listed

of-three : (k : ℕ) (out : List ℕ) → little_chart 3 k out ≡ given 3 k three out
unfolding little_verdict little_chart
of-three k out = ap (λ (xs : List Chart). given 3 k xs out) three-listed

-- of four frames by the samples
text-first : little_text 4 0 ≡ first_four
unfolding charting samples first_four
text-first = ap (λ (s : Samples). text_of s.first) samples-four

text-middle : little_text 4 324 ≡ middle_four
unfolding charting samples middle_four
text-middle = ap (λ (s : Samples). text_of s.middle) samples-four

text-last : little_text 4 647 ≡ last_four
unfolding charting samples last_four
text-last = ap (λ (s : Samples). text_of s.last) samples-four

of-four : (k : ℕ) (t out : List ℕ) → little_text 4 k ≡ t → little_chart 4 k out ≡ buffer_on (when 24 (nat_le 648 k)) 1 (λ _. t) out
unfolding little_verdict little_chart
of-four k t out e = ap₂ (λ (n : ℕ) (xs : List ℕ). buffer_on (when 24 (nat_le n k)) 1 (λ _. xs) out) total-four e

pub little-cases : LittleCases
unfolding charting little_verdict little_chart two three texts_two texts_three
little-cases = record {
  two = ap (map text_of) two-listed;
  three = ap (map text_of) three-listed;
  four = (text-first, text-middle, text-last);
  last-two = λ out. of-two 1 out;
  last-three = λ out. of-three 17 out;
  last-of-four = λ out. of-four 647 last_four out text-last;
  past-two = λ out. of-two 2 out;
  past-three = λ out. of-three 18 out;
  past-four = λ out. of-four 648 (little_text 4 648) out refl;
  none = λ out. refl;
  one = λ out. refl;
  five = λ out. refl;
  short = of-two 0 (replicate 45 9);
  past-first = of-two 2 [];
}
