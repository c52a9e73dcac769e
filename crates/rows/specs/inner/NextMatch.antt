-- What the searches for a row that agrees, and for one that matches, promise.
use Rattle.std.specs.Prelude.{ℕ, ◌+◌, ◌-◌, ◌≤◌, ◌<◌, true, false, ◌≡◌, List}
use Rattle.rows.specs.inner.Search.{is_agreeing_frame, is_matching_frame}

-- no row from a frame on, up to the one in frame r, agrees with a word
pub record Unagreeing (b : List ℕ) (w from r : ℕ) : Type 0 where
  pub on : from ≤ r
  pub none : (k : ℕ) → from ≤ k → k < r → is_agreeing_frame b w k ≡ false

-- r is the frame of the first row from a frame on that agrees with a word, or the end where none does
pub record NextAgreeing (b : List ℕ) (w from end r : ℕ) : Type 0 where
  pub passed : Unagreeing b w from r
  pub within : r ≤ end
  pub stopped : r < end → is_agreeing_frame b w r ≡ true

-- no row from a frame on, up to the one in frame r, matches
pub record Unmatched (b : List ℕ) (w bit from r : ℕ) : Type 0 where
  pub on : from ≤ r
  pub none : (k : ℕ) → from ≤ k → k < r → is_matching_frame b w bit k ≡ false

-- r is the frame of the first row from a frame on that matches, or the end where none does or that frame lies behind it
pub record NextMatch (b : List ℕ) (w bit from end r : ℕ) : Type 0 where
  pub within : r ≤ end
  pub passed : from ≤ end → Unmatched b w bit from r
  pub stopped : r < end → (from ≤ r) × (is_matching_frame b w bit r ≡ true)

-- of the rows from one frame up to another each is passed over by one search, or is the one that the first search found, or is left
-- where the second one stopped
abbrev pub RowsOnce : Type 0
RowsOnce =
    (b : List ℕ) (w bit first end found second : ℕ) → NextMatch b w bit first end found → found < end
    → NextMatch b w bit (found + 1) end second → (found - first) + 1 + (second - (found + 1)) + (end - second) ≡ end - first
