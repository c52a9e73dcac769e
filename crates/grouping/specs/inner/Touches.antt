-- Which labels have a row to a marked label, and what a round leaves for the next.
use Rattle.std.specs.Prelude.{ℕ, zero, suc, ◌+◌, ◌-◌, ◌≡◌, List, set, replicate, if◌then◌else◌, nat_lt, slice_index}
use Rattle.text.specs.declared.frames.sizes.TheConstants.{LABELS}
use Rattle.text.specs.frames.Frame.{field}
use Rattle.image.specs.declared.layout.TheConstants.{FROM, NEXT}
use Rattle.image.specs.Decode.{last_label, rows_from}
use Rattle.tables.specs.Table.{table_end}
use Rattle.grouping.specs.inner.GroupingContracts.{Marks}
use Rattle.grouping.specs.inner.Parts.{PartsMarked}

-- a label's note, raised to a mark
abbrev pub raised : List ℕ → ℕ → ℕ → List ℕ
raised touched label mark = if nat_lt (slice_index touched label) mark then set touched label mark else touched

-- the notes after so many rows
unfoldable pub notes_after : List ℕ → List ℕ → ℕ → List ℕ
notes_after b marks zero = replicate LABELS 0
notes_after b marks (suc k) =
    let f = rows_from b + k in raised (notes_after b marks k) (field b f FROM) (slice_index marks (field b f NEXT))

-- at each label the highest mark of those that its rows lead to
abbrev pub notes : List ℕ → List ℕ → List ℕ
notes b marks = notes_after b marks (table_end b - rows_from b)

-- the buffers after a round, and that they are marks for the next; the buffer of notes has the counts first
pub record RoundMarked (b classes next marks₀ touched₀ kept₀ marks touched kept : List ℕ) : Type 0 where
  pub counts : List ℕ
  pub parts : PartsMarked classes next marks₀ touched₀ kept₀ (last_label b + 1) marks counts kept
  pub noted : touched ≡ notes b marks
  pub marked : Marks b next marks touched
