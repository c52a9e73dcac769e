-- What the choice among the rows of a label comes to, said without a search.
use Rattle.std.specs.Prelude.{ℕ, ◌≤◌, ◌<◌, true, false, ◌≡◌, List, length, slice_index_or}
use Rattle.std.specs.Int.Count.{ones}
use Rattle.image.specs.Image.{Row, no_row}
use Rattle.rows.specs.Rows.{is_candidate, row, no_choice, best_row}

-- row k of the list is r and is a matching row of label l; none that matches has more ones in its care mask, and no later one as many
pub record Best (l w b : ℕ) (rs : List Row) (k : ℕ) (r : Row) : Type 0 where
  pub inside : k < length rs
  pub is : slice_index_or rs k no_row ≡ r
  pub matches : is_candidate l w b r ≡ true
  pub most : (j : ℕ) → j < length rs → is_candidate l w b (slice_index_or rs j no_row) ≡ true
      → ones (slice_index_or rs j no_row).care ≤ ones r.care
  pub last : (j : ℕ) → k < j → j < length rs → is_candidate l w b (slice_index_or rs j no_row) ≡ true
      → ones (slice_index_or rs j no_row).care < ones r.care

-- the row chosen is the best one, and a best one is the row chosen; there is just one, and none where no row matches
abbrev pub ChosenIsBest : Type 0
ChosenIsBest = (l w b : ℕ) (rs : List Row) (k : ℕ) (r : Row) → best_row l w b 0 rs ≡ row k r → Best l w b rs k r

abbrev pub BestIsChosen : Type 0
BestIsChosen = (l w b : ℕ) (rs : List Row) (k : ℕ) (r : Row) → Best l w b rs k r → best_row l w b 0 rs ≡ row k r

abbrev pub BestOnce : Type 0
BestOnce =
    (l w b : ℕ) (rs : List Row) (p q : ℕ) (r s : Row) → Best l w b rs p r → Best l w b rs q s → (p ≡ q) × (r ≡ s)

abbrev pub NoneMatches : Type 0
NoneMatches =
    (l w b n : ℕ) (rs : List Row) → best_row l w b n rs ≡ no_choice → (j : ℕ)
    → j < length rs → is_candidate l w b (slice_index_or rs j no_row) ≡ false

abbrev pub NoneChosen : Type 0
NoneChosen =
    (l w b k : ℕ) (rs : List Row) → ((j : ℕ) → j < length rs → is_candidate l w b (slice_index_or rs j no_row) ≡ false)
    → best_row l w b k rs ≡ no_choice
