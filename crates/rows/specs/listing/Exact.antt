-- What the listing is, said without a count or a search, of every accepted image; and by the frames of the table that its ticks look at.
use Rattle.std.specs.Prelude.{ℕ, ◌+◌, ◌≤◌, ◌<◌, ◌≡◌, ◌↔◌, List, length, take, drop, slice_index}
use Rattle.text.specs.frames.Frame.{contents}
use Rattle.text.specs.frames.Verdict.{fine}
use Rattle.text.specs.frames.Answer.{success}
use Rattle.image.specs.Image.{Image, nth_row}
use Rattle.image.specs.Decode.{last_label, rows_from, decoded_image}
use Rattle.image.specs.Check.{image_verdict}
use Rattle.tables.specs.Prepare.{noted_table}
use Rattle.tables.specs.Table.{first_on, end_on, rows_on}
use Rattle.rows.specs.listing.Listing.{row_count_of, first_of, list}

-- row k is there and leaves label l
abbrev pub Own : Image → ℕ → ℕ → Type 0
Own i l k = (k < length i.rows) × ((nth_row i k).from ≡ l)

-- the rows of label l are those that the listing names, and no others
unfoldable pub Exactly : Type 0
Exactly =
    (t : List ℕ) → image_verdict t ≡ fine → (l k : ℕ) → let i = decoded_image (contents t) in
    Own i l k ↔ ((first_of i l ≤ k) × (k < first_of i l + row_count_of i l))

-- a label without rows has 0 and 0
unfoldable pub EmptyZero : Type 0
EmptyZero =
    (t : List ℕ) (l : ℕ) → let i = decoded_image (contents t) in ((k : ℕ) → Own i l k → ⊥) → (first_of i l ≡ 0) × (row_count_of i l ≡ 0)

-- and so have labels 0 and 1
unfoldable pub LowZero : Type 0
LowZero = (t : List ℕ) → image_verdict t ≡ fine → (l : ℕ) → l < 2 → let i = decoded_image (contents t) in (first_of i l ≡ 0)
    × (row_count_of i l ≡ 0)

-- the buffers after success with count n:
-- it is the number of labels, and of each label they hold its first row and how many rows it has, which are its rows and no others
pub record Held (t firsts counts : List ℕ) (n : ℕ) : Type 0 where
  pub accepted : image_verdict t ≡ fine
  pub labels : n ≡ length (decoded_image (contents t)).labels
  pub first : (l : ℕ) → l < n → slice_index firsts l ≡ first_of (decoded_image (contents t)) l
  pub number : (l : ℕ) → l < n → slice_index counts l ≡ row_count_of (decoded_image (contents t)) l
  pub exactly : (l k : ℕ) → l < n
      → Own (decoded_image (contents t)) l k ↔ ((slice_index firsts l ≤ k) × (k < slice_index firsts l + slice_index counts l))

-- so they are whenever the entry point succeeds
unfoldable pub HeldOnSuccess : Type 0
HeldOnSuccess =
    (t xs ys : List ℕ) (n : ℕ) → (list t xs ys).reply ≡ success n → Held t (list t xs ys).firsts (list t xs ys).counts n

-- on a table that holds image i a tick looks at the frames from the one of label l's first row on, as many as the listing counts, and at
-- the rows that it names
pub record LooksAt (b : List ℕ) (i : Image) (l : ℕ) : Type 0 where
  pub low : rows_from b ≤ first_on b l
  pub first : (row_count_of i l ≡ 0 → ⊥) → first_on b l ≡ rows_from b + first_of i l
  pub end : end_on b l ≡ first_on b l + row_count_of i l
  pub rows : rows_on b l ≡ take (row_count_of i l) (drop (first_of i l) i.rows)

unfoldable pub ListedFrames : Type 0
ListedFrames =
    (t : List ℕ) → image_verdict t ≡ fine → (l : ℕ) → 2 ≤ l → l ≤ last_label (contents t)
    → LooksAt (noted_table (contents t)) (decoded_image (contents t)) l
