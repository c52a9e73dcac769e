-- The Begins and the Ends of each scheme, counted.
use Rattle.std.specs.Prelude.{ℕ, Bool, ◌&&◌, not, List, ◌==◌, slice_index}
use Rattle.words.specs.lists.Numbers.{tabulate, count}
use Rattle.charts.specs.Chart.{Chart, is_of}

-- for each scheme up to 16, how many of the first v nodes are of kind k
abbrev pub counts_to : Chart → ℕ → ℕ → List ℕ
counts_to c k v = tabulate (λ h. count (is_of c k h) 0 v) 17

-- by the counts of Begins and of Ends, scheme h has not exactly one of each
abbrev pub is_not_one_of_each : List ℕ → List ℕ → ℕ → Bool
is_not_one_of_each begins ends h = not (slice_index begins h == 1 && slice_index ends h == 1)
