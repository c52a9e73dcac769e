-- All the little charts: the accepted ones that have one scheme in 2 to 4 frames, no function and no mark, condition 0 alone, masks 0
-- or 1 and results 0.
use Rattle.std.specs.Prelude.{ℕ, zero, suc, Bool, true, false, ◌&&◌, ◌||◌, not, List, [], ◌∷◌, ◌++◌, map, length, nat_lt, nat_le, ◌==◌, slice_index_or, flat_map, filter}
use Rattle.std.specs.Prelude.{replicate}
use Rattle.words.specs.lists.Numbers.{range, any}
use Rattle.text.specs.declared.frames.refusals.TheConstants.{NO_LITTLE_CHART}
use Rattle.text.specs.frames.Frame.{size, text_of}
use Rattle.text.specs.frames.Verdict.{Verdict, fine, refused, when}
use Rattle.text.specs.frames.Answer.{BufferOutcome, buffer_on}
use Rattle.charts.specs.declared.layout.TheConstants.{BEGIN, END, OPERATION, CONDITION}
use Rattle.charts.specs.Chart.{Chart, kind, scheme, argument, result, mask, is}
use Rattle.charts.specs.Check.{chart_verdict}

-- ---- the form
abbrev pub is_little_node : Chart → ℕ → Bool
is_little_node c v =
    scheme c v == 1 && nat_le (kind c v) CONDITION
    && (is c OPERATION v || argument c v == 0)
    && (not (is c OPERATION v) || (result c v == 0 && nat_le (mask c v) 1))

abbrev pub is_little : Chart → Bool
is_little c = not (any (λ v. not (is_little_node c v)) 0 (size c))

-- ---- the records of such nodes in a chart of n frames, in increasing order
abbrev pub begin_node : ℕ → List ℕ
begin_node u = BEGIN ∷ 1 ∷ 0 ∷ u ∷ replicate 6 0

abbrev pub end_node : List ℕ
end_node = END ∷ 1 ∷ replicate 8 0

abbrev pub operation_node : ℕ → ℕ → List ℕ
operation_node u m = OPERATION ∷ 1 ∷ 0 ∷ u ∷ 0 ∷ 0 ∷ 0 ∷ 0 ∷ 0 ∷ m ∷ []

abbrev pub condition_node : ℕ → ℕ → List ℕ
condition_node u w = CONDITION ∷ 1 ∷ 0 ∷ u ∷ w ∷ replicate 5 0

unfoldable pub nodes : ℕ → List (List ℕ)
nodes n =
    map begin_node (range 0 n) ++ (end_node ∷ flat_map (λ u. map (operation_node u) (range 0 2)) (range 0 n)
    ++ flat_map (λ u. map (condition_node u) (range 0 n)) (range 0 n))

-- ---- the charts
-- all lists of m records, in the order of the records
unfoldable pub lists_of : List (List ℕ) → ℕ → List (List (List ℕ))
lists_of rs zero = [] ∷ []
lists_of rs (suc m) = flat_map (λ r. map (λ fs. r ∷ fs) (lists_of rs m)) rs

abbrev pub chart_of : List (List ℕ) → Chart
chart_of = flat_map (λ r. r)

abbrev pub is_fine : Verdict → Bool
is_fine fine = true
is_fine (refused k i) = false

unfoldable pub little_charts : ℕ → List Chart
little_charts n = filter (λ c. is_fine (chart_verdict c)) (map chart_of (lists_of (nodes n) n))

-- ---- fetched by frame count and number: 24, and 16
abbrev pub little_text : ℕ → ℕ → List ℕ
little_text n k = text_of (slice_index_or (little_charts n) k [])

unfoldable pub little_verdict : ℕ → ℕ → Verdict
little_verdict n k = when NO_LITTLE_CHART (nat_lt n 2 || nat_lt 4 n || nat_le (length (little_charts n)) k)

unfoldable pub little_chart : ℕ → ℕ → List ℕ → BufferOutcome
little_chart n k old = buffer_on (little_verdict n k) 1 (λ _. little_text n k) old
