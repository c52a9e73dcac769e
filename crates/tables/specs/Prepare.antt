-- An image prepared for ticks: its table, and in the frame of each label where the rows of that label end.
use Rattle.std.specs.Prelude.{ℕ, zero, suc, ◌+◌, ◌*◌, ◌-◌, ◌/◌, ◌%◌, Bool, List, set, nat_le}
use Rattle.words.specs.lists.Numbers.{lowest}
use Rattle.text.specs.declared.frames.sizes.TheConstants.{FRAME}
use Rattle.text.specs.frames.Frame.{size, field, contents}
use Rattle.text.specs.frames.Answer.{BufferOutcome, buffer_on}
use Rattle.image.specs.declared.layout.TheConstants.{FROM}
use Rattle.image.specs.Decode.{last_label, labels_from, rows_from}
use Rattle.image.specs.Check.{image_verdict}

-- the row in frame f leaves label l or one above it; the first such frame, or the end of the table
abbrev pub is_row_reached : List ℕ → ℕ → ℕ → Bool
is_row_reached b l f = nat_le l (field b f FROM)

abbrev pub first_frame : List ℕ → ℕ → ℕ
first_frame b l = lowest (is_row_reached b l) (rows_from b) (size b - rows_from b)

-- bytes 0 and 1 of a label's frame say only where it stands; in the first n labels they hold the frame at which its rows end instead, low
-- byte first
unfoldable pub noted_to : List ℕ → ℕ → List ℕ
noted_to b zero = b
noted_to b (suc l) =
    let at = FRAME * (labels_from b + l) in let end = first_frame b (l + 1) in set (set (noted_to b l) at (end % 256)) (at + 1) (end / 256)

abbrev pub noted_table : List ℕ → List ℕ
noted_table b = noted_to b (last_label b + 1)

-- the whole entry: what the image check tries, then 16; counts bytes
unfoldable pub prepare : List ℕ → List ℕ → BufferOutcome
prepare t old = buffer_on (image_verdict t) 1 (λ _. noted_table (contents t)) old
