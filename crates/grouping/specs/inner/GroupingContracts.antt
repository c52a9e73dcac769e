-- What the functions that find the groups ask of a prepared table and promise.
use Rattle.std.specs.Prelude.{ℕ, suc, ◌+◌, ◌-◌, ◌≤◌, ◌<◌, Bool, true, false, ◌&&◌, ◌||◌, not, ◌≡◌, List, length, nat_le, ◌==◌, slice_index, count_by}
use Rattle.std.specs.List.{list_any, range_with_len}
use Rattle.words.specs.lists.Sequences.{over}
use Rattle.text.specs.declared.frames.sizes.TheConstants.{LABELS}
use Rattle.text.specs.frames.Frame.{field}
use Rattle.image.specs.declared.layout.TheConstants.{FROM, FUNCTION_BIT, NEXT}
use Rattle.image.specs.Decode.{last_label, rows_from, row_in_frame}
use Rattle.image.specs.inner.Sound.{SoundImage}
use Rattle.tables.specs.Table.{table_label, first_on, end_on, row_on, table_image}
use Rattle.covering.specs.Matched.{is_uneven, is_together}
use Rattle.grouping.specs.declared.parting.TheConstants.{MANY}
use Rattle.grouping.specs.Classes.{has_same_fields, class_of, classes}

-- a table of a sound image to which 23 does not apply, with a function bit only in the rows of a function call's label, and in each row the
-- label that has it
pub record Even (b : List ℕ) : Type 0 where
  pub sound : SoundImage (table_image b)
  pub bits : (l f : ℕ) → 2 ≤ l → l ≤ last_label b → first_on b l ≤ f → f < end_on b l → (row_on b l f).bit ≡ field b f FUNCTION_BIT
  pub own : (l f : ℕ) → 2 ≤ l → l ≤ last_label b → first_on b l ≤ f → f < end_on b l → field b f FROM ≡ l
  pub behind : (l : ℕ) → 2 ≤ l → l ≤ last_label b → rows_from b ≤ first_on b l
  pub covered : is_uneven (table_image b) ≡ false

-- a buffer that begins with the classes of labels 0 to M
pub record Classed (b c buffer : List ℕ) : Type 0 where
  pub long : length buffer ≡ LABELS
  pub at : (l : ℕ) → l ≤ last_label b → slice_index buffer l ≡ class_of c l

-- the classes after k rounds
abbrev pub After : List ℕ → ℕ → List ℕ → Type 0
After b k buffer = Classed b (classes (table_image b) k) buffer

abbrev pub has_same_fields_on : List ℕ → ℕ → ℕ → Bool
has_same_fields_on b m l = has_same_fields (table_label b m) (table_label b l)

-- the rows in frames f and g match one word and bit and lead to different classes
abbrev pub is_parting_in : List ℕ → List ℕ → ℕ → ℕ → Bool
is_parting_in b c f g =
    not (slice_index c (field b f NEXT) == slice_index c (field b g NEXT)) && is_together (row_in_frame b f) (row_in_frame b g)

-- the row in frame f parts its label from the one whose rows stand from frame first up to end
abbrev pub is_parting_any : List ℕ → List ℕ → ℕ → ℕ → ℕ → Bool
is_parting_any b c f first end = list_any (is_parting_in b c f) (range_with_len first (end - first))

-- some row of label m parts it from label l
abbrev pub is_parted_on : List ℕ → List ℕ → ℕ → ℕ → Bool
is_parted_on b c m l =
    list_any (λ f. is_parting_any b c f (first_on b l) (end_on b l)) (range_with_len (first_on b m) (end_on b m - first_on b m))

-- the row in frame f leads to a label with at least this mark
abbrev pub has_marked_next : List ℕ → List ℕ → ℕ → ℕ → Bool
has_marked_next b marks least f = nat_le least (slice_index marks (field b f NEXT))

-- how many rows of label m lead to such labels
abbrev pub count_marked : List ℕ → List ℕ → ℕ → ℕ → ℕ
count_marked b marks least m = count_by (has_marked_next b marks least) (range_with_len (first_on b m) (end_on b m - first_on b m))

-- label l has many rows, and many of label m lead to such labels
abbrev pub has_many : List ℕ → List ℕ → ℕ → ℕ → ℕ → Bool
has_many b marks least m l = nat_le MANY (end_on b l - first_on b l) && nat_le MANY (count_marked b marks least m)

-- some row of label m that leads to such a label parts it from the one whose rows stand from frame first up to end
abbrev pub is_parted_in : List ℕ → List ℕ → List ℕ → ℕ → ℕ → ℕ → ℕ → Bool
is_parted_in b c marks least m first end =
    list_any (λ f. has_marked_next b marks least f && is_parting_any b c f first end) (range_with_len (first_on b m) (end_on b m - first_on b m))

-- and from label l
abbrev pub is_parted_by : List ℕ → List ℕ → List ℕ → ℕ → ℕ → ℕ → Bool
is_parted_by b c marks least m l = is_parted_in b c marks least m (first_on b l) (end_on b l)

-- the second buffer has at labels from 2 up to n at least the mark of each label that their rows lead to
abbrev pub Noted : List ℕ → List ℕ → ℕ → List ℕ → Type 0
Noted b marks n touched = (l f : ℕ) → 2 ≤ l → l < n → first_on b l ≤ f → f < end_on b l
    → slice_index marks (field b f NEXT) ≤ slice_index touched l

-- Which rows a round need look at: where rows part labels m and l of one class, that of m leads to a marked label, or that of l to one with
-- mark 2.
pub record Marks (b c marks touched : List ℕ) : Type 0 where
  pub long : length marks ≡ LABELS
  pub room : length touched ≡ LABELS
  pub seen : (m l f g : ℕ) → 2 ≤ m → m ≤ last_label b → 2 ≤ l → l ≤ last_label b → slice_index c m ≡ slice_index c l
      → first_on b m ≤ f → f < end_on b m → first_on b l ≤ g → g < end_on b l → is_parting_in b c f g ≡ true
      → (has_marked_next b marks 1 f || has_marked_next b marks 2 g) ≡ true
  pub noted : Noted b marks (last_label b + 1) touched

-- of the labels of one former class, those with a mark below 2 are in one class
pub record KeptClasses (n : ℕ) (former c marks : List ℕ) : Type 0 where
  pub long : length marks ≡ LABELS
  pub one : (l m : ℕ) → l < n → m < n → slice_index former l ≡ slice_index former m → slice_index marks l < 2 → slice_index marks m < 2
      → slice_index c l ≡ slice_index c m

-- label m is of the same class as label l, the lowest of its next class, and not parted from l
abbrev pub is_class_leader : List ℕ → List ℕ → List ℕ → ℕ → ℕ → Bool
is_class_leader b c next l m = slice_index c m == slice_index c l && slice_index next m == m && not (is_parted_on b c m l)

-- what a round knows of the lowest label of l's class: it is no higher than l and in that class, and below l it leads its next class too
pub record Lowest (classes next : List ℕ) (l : ℕ) : Type 0 where
  pub below : slice_index classes l ≤ l
  pub own : slice_index classes (slice_index classes l) ≡ slice_index classes l
  pub leads : slice_index classes l < l → slice_index next (slice_index classes l) ≡ slice_index classes l

-- a buffer with the classes after some round
pub record Refined (b buffer : List ℕ) : Type 0 where
  pub rounds : ℕ
  pub now : After b rounds buffer

-- a buffer after the classes after k rounds were written to its front
abbrev pub classes_over : List ℕ → ℕ → List ℕ → List ℕ
classes_over b k old = over (classes (table_image b) k) old

-- the classes one round later, written to the front of a buffer
abbrev pub OneMore : List ℕ → List ℕ → List ℕ → List ℕ → Type 0
OneMore b buffer old next = (k : ℕ) → After b k buffer → next ≡ classes_over b (suc k) old

-- a buffer with the classes after some round, and one with those after the next
pub record Advanced (b buffer next : List ℕ) : Type 0 where
  pub rounds : ℕ
  pub before : After b rounds buffer
  pub after : After b (suc rounds) next

abbrev pub has_other_class : List ℕ → List ℕ → ℕ → Bool
has_other_class c d l = not (slice_index c l == slice_index d l)
