-- A list of charts looked at once: how many there are, and three of them.
use Rattle.std.specs.Prelude.{ℕ, List, [], length, slice_index_or}
use Rattle.charts.specs.Chart.{Chart}

pub record Samples : Type 0 where
  pub count : ℕ
  pub first : Chart
  pub middle : Chart
  pub last : Chart

-- number 0, number j and number k
unfoldable pub samples : ℕ → ℕ → List Chart → Samples
samples j k xs =
    record { count = length xs; first = slice_index_or xs 0 []; middle = slice_index_or xs j []; last = slice_index_or xs k [] }
