-- What renumbering the groups comes to: in order of their lowest members, with entries and rows led to the new labels.
use Rattle.std.specs.Prelude.{ℕ, ◌<◌, true, ◌≡◌, List, map, length, slice_index, filter}
use Rattle.words.specs.lists.Numbers.{count}
use Rattle.image.specs.Image.{Image, Row}
use Rattle.rows.specs.Rows.{is_candidate}
use Rattle.grouping.specs.Classes.{is_first}
use Rattle.minimising.specs.group_numbers.Smaller.{renumbered_label, renumbered_row, joined_labels}

-- a label that is the lowest of its group has as its number how many such labels are below it
abbrev pub FirstNumbered : Type 0
FirstNumbered = (c : List ℕ) (l : ℕ) → is_first c l ≡ true → renumbered_label c l ≡ count (is_first c) 0 l

abbrev pub EntriesLed : Type 0
EntriesLed =
    (i : Image) (c : List ℕ) (h : ℕ) → h < length i.entries
    → slice_index (joined_labels i c).entries h ≡ renumbered_label c (slice_index i.entries h)

-- of such a label the rows that match a word and bit are those that matched, renumbered
abbrev pub RowsLed : Type 0
RowsLed =
    (c : List ℕ) (l w b : ℕ) → is_first c l ≡ true → (rs : List Row)
    → filter (is_candidate (renumbered_label c l) w b) (map (renumbered_row c) (filter (λ r. is_first c r.from) rs))
    ≡ map (renumbered_row c) (filter (is_candidate l w b) rs)
