-- What the list of little charts promises: each is accepted and of the form, none is missing, and their texts increase.
use Rattle.std.specs.Prelude.{ℕ, ◌≤◌, ◌<◌, Bool, true, false, ◌&&◌, ◌||◌, ◌≡◌, List, [], ◌∷◌, map, length, nat_lt, ◌==◌}
use Rattle.text.specs.digits.Digit.{capital}
use Rattle.text.specs.frames.Frame.{contents, frame_count, text_of}
use Rattle.text.specs.frames.Verdict.{fine}
use Rattle.charts.specs.Entry.{read_verdict}
use Rattle.little_charts.specs.Little.{is_little, little_charts, little_text}

-- the order of texts: by the first character that differs
unfoldable pub is_before : List ℕ → List ℕ → Bool
is_before [] [] = false
is_before [] (y ∷ ys) = true
is_before (x ∷ xs) [] = false
is_before (x ∷ xs) (y ∷ ys) = nat_lt x y || (x == y && is_before xs ys)

abbrev pub little_total : ℕ → ℕ
little_total n = length (little_charts n)

-- a text of n frames that the reader accepts, of the form, be its letters small or large
pub record Wanted (n : ℕ) (t : List ℕ) : Type 0 where
  pub accepted : read_verdict t ≡ fine
  pub frames : frame_count t ≡ n
  pub formed : is_little (contents t) ≡ true

-- each is such a text, and is what the writer gives for its records
unfoldable pub AllWanted : Type 0
AllWanted = (n k : ℕ) → 2 ≤ n → n ≤ 4 → k < little_total n
    → Wanted n (little_text n k) × (text_of (contents (little_text n k)) ≡ little_text n k)

-- the number of a text, which is listed in capitals
pub record NumberedText (n : ℕ) (t : List ℕ) : Type 0 where
  pub number : ℕ
  pub low : number < little_total n
  pub text : little_text n number ≡ map capital t

unfoldable pub NoneMissing : Type 0
NoneMissing = (n : ℕ) (t : List ℕ) → 2 ≤ n → n ≤ 4 → Wanted n t → NumberedText n t

unfoldable pub InOrder : Type 0
InOrder = (n i j : ℕ) → 2 ≤ n → n ≤ 4 → i < j → j < little_total n → is_before (little_text n i) (little_text n j) ≡ true

unfoldable pub EachOnce : Type 0
EachOnce = (n i j : ℕ) → 2 ≤ n → n ≤ 4 → i < little_total n → j < little_total n → little_text n i ≡ little_text n j → i ≡ j

-- a little chart of fewer frames has the shorter text
unfoldable pub ShorterFirst : Type 0
ShorterFirst =
    (m n j k : ℕ) → 2 ≤ m → n ≤ 4 → m < n → j < little_total m → k < little_total n
    → length (little_text m j) < length (little_text n k)

-- how many there are
abbrev pub Totals : Type 0
Totals = (little_total 2 ≡ 2) × (little_total 3 ≡ 18) × (little_total 4 ≡ 648)
