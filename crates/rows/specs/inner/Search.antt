-- What the search for a row among the frames of a table asks and promises.
use Rattle.std.specs.Prelude.{ℕ, ◌+◌, ◌*◌, ◌/◌, ◌%◌, Bool, true, false, ◌&&◌, ◌||◌, ◌≡◌, ◌-◌, ◌<◌, List, map, if◌then◌else◌, nat_lt, ◌==◌}
use Rattle.std.specs.Int.Count.{ones}
use Rattle.words.specs.lists.Numbers.{range}
use Rattle.words.specs.bits.Word.{is_agreeing}
use Rattle.text.specs.frames.Frame.{size, field, pair_at}
use Rattle.image.specs.declared.layout.TheConstants.{CARE, VALUES, FUNCTION_BIT, NO_BIT, FUNCTION_CALL}
use Rattle.tables.specs.Table.{table_label, first_on, row_on, rows_on}
use Rattle.rows.specs.declared.TheConstants.{NO_FRAME}
use Rattle.rows.specs.declared.Best.{Best}
use Rattle.rows.specs.Rows.{Choice, row, no_choice, better_choice, best_row, Found, found, missing}

-- a word of two bytes with its bytes in the other order
abbrev pub swapped_word : ℕ → ℕ
swapped_word w = w % 256 * 256 + w / 256

-- the row in frame f agrees with a word, and suits a bit; bit 2 says that no bit decides
abbrev pub is_agreeing_frame : List ℕ → ℕ → ℕ → Bool
is_agreeing_frame b w f = is_agreeing w (pair_at b f CARE) (pair_at b f VALUES)

abbrev pub is_suited_frame : List ℕ → ℕ → ℕ → Bool
is_suited_frame b bit f = bit == NO_BIT || (field b f FUNCTION_BIT == NO_BIT || field b f FUNCTION_BIT == bit)

-- it matches, whatever label it leaves
abbrev pub is_matching_frame : List ℕ → ℕ → ℕ → ℕ → Bool
is_matching_frame b w bit f = is_agreeing_frame b w f && is_suited_frame b bit f

-- what a search among the rows of label l chose: the row in frame f, or none where that is past the table
abbrev pub found_at : List ℕ → ℕ → ℕ → Choice
found_at b l f = if nat_lt f (size b) then row f (row_on b l f) else no_choice

-- r is the better of the row in frame best and the later one in frame f, whatever label they leave
abbrev pub BetterOf : List ℕ → ℕ → ℕ → ℕ → Type 0
BetterOf b best f r = (l : ℕ) → found_at b l r ≡ better_choice (found_at b l best) (row f (row_on b l f))

-- a row with the ones of its care mask
pub record IsCounted (b : List ℕ) (best : Best) : Type 0 where
  pub inside : best.frame < size b
  pub counted : best.ones ≡ ones (pair_at b best.frame CARE)

-- the frame of the row chosen, which its number is
abbrev pub chosen_frame : Choice → ℕ
chosen_frame (row f r) = f
chosen_frame no_choice = NO_FRAME

-- r is the frame of the row that label l takes, or NO_FRAME where none matches
abbrev pub Chosen : List ℕ → ℕ → ℕ → ℕ → ℕ → Type 0
Chosen b l w bit r = r ≡ chosen_frame (best_row l w bit (first_on b l) (rows_on b l))

-- a row matches, and leads somewhere
abbrev pub is_found : Found → Bool
is_found (found l) = true
is_found missing = false

-- a bit that decides among the rows of a label where it calls a function and nowhere else
pub record Deciding (b : List ℕ) (l bit : ℕ) : Type 0 where
  pub none : bit ≡ NO_BIT → (table_label b l).kind ≡ FUNCTION_CALL → ⊥
  pub some : (bit ≡ NO_BIT → ⊥) → (table_label b l).kind ≡ FUNCTION_CALL

-- r is the best of the row in frame k and of those that match in the frames from f up to the end, whatever label they leave
pub record BestFrom (b : List ℕ) (w bit k f end r : ℕ) : Type 0 where
  pub inside : r < size b
  pub best : (l : ℕ) → Deciding b l bit → found_at b l r ≡ better_choice (found_at b l k)
      (best_row l w bit f (map (row_on b l) (range f (end - f))))
