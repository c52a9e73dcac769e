-- Which row a label takes.
use Rattle.std.specs.Prelude.{ℕ, suc, Bool, ◌&&◌, ◌||◌, List, [], ◌∷◌, if◌then◌else◌, nat_lt, ◌==◌}
use Rattle.std.specs.Int.Count.{ones}
use Rattle.words.specs.bits.Word.{is_agreeing}
use Rattle.image.specs.declared.layout.TheConstants.{NO_BIT, NO_LABEL}
use Rattle.image.specs.Image.{Row}

-- a row matches a word and the bit of the number that its label calls
abbrev pub is_match : ℕ → ℕ → Row → Bool
is_match w b r = is_agreeing w r.care r.values && (r.bit == NO_BIT || r.bit == b)

-- a row of label l that matches
abbrev pub is_candidate : ℕ → ℕ → ℕ → Row → Bool
is_candidate l w b r = r.from == l && is_match w b r

-- a row with its number, or none
pub data Choice : Type 0 where
  row : ℕ → Row → Choice
  no_choice : Choice

-- of two, the later one unless the care mask of the other has more ones
abbrev pub better_choice : Choice → Choice → Choice
better_choice no_choice y = y
better_choice (row k r) no_choice = row k r
better_choice (row k r) (row j q) = if nat_lt (ones q.care) (ones r.care) then row k r else row j q

-- of the rows of label l that match, the one that asks for most conditions, the last of these where several do; the first row has number k
unfoldable pub best_row : ℕ → ℕ → ℕ → ℕ → List Row → Choice
best_row l w b k [] = no_choice
best_row l w b k (r ∷ rs) = better_choice (if is_candidate l w b r then row k r else no_choice) (best_row l w b (suc k) rs)

pub data Found : Type 0 where
  found : ℕ → Found
  missing : Found

-- where the row chosen leads
abbrev pub lead_of : Choice → Found
lead_of (row k r) = found r.next
lead_of no_choice = missing

-- where a row leads, as a number: NO_LABEL, above all labels, says that no row matches
abbrev pub next_of : Found → ℕ
next_of (found l) = l
next_of missing = NO_LABEL
