-- The text of the smaller image, frame by frame of the given one: a frame of a label or row that is not kept gives nothing.
use Rattle.std.specs.Prelude.{ℕ, ◌+◌, List, [], if◌then◌else◌}
use Rattle.words.specs.lists.Numbers.{count}
use Rattle.text.specs.frames.Frame.{size, field, frame_text}
use Rattle.image.specs.declared.layout.TheConstants.{FROM}
use Rattle.image.specs.Image.{entry_frame, label_frame, row_frame}
use Rattle.image.specs.Decode.{scheme_count, last_label, row_count, handler_in, rows_from, entry_in, label_in, row_in}
use Rattle.image.specs.Check.{Position, header_position, entry_position, label_position, row_position, position_of}
use Rattle.translator.specs.inner.LabelBytes.{up_to}
use Rattle.grouping.specs.Classes.{is_first}
use Rattle.minimising.specs.group_numbers.Smaller.{renumbered_label, renumbered_row}
use Rattle.minimising.specs.inner.GroupFrames.{header_piece}

-- how many labels and rows are kept
abbrev pub groups_in : List ℕ → List ℕ → ℕ
groups_in b c = count (is_first c) 0 (last_label b + 1)

abbrev pub rows_kept : List ℕ → List ℕ → ℕ
rows_kept b c = count (λ f. is_first c (field b f FROM)) (rows_from b) (row_count b)

abbrev pub piece_at : List ℕ → List ℕ → Position → List ℕ
piece_at b c header_position = header_piece (scheme_count b) (groups_in b c) (rows_kept b c) (handler_in b)
piece_at b c (entry_position h) = frame_text (entry_frame h (renumbered_label c (entry_in b h)))
piece_at b c (label_position l) = if is_first c l then frame_text (label_frame (renumbered_label c l) (label_in b l)) else []
piece_at b c (row_position k) = if is_first c (row_in b k).from then frame_text (row_frame (renumbered_row c (row_in b k))) else []

abbrev pub piece : List ℕ → List ℕ → ℕ → List ℕ
piece b c f = piece_at b c (position_of b f)

abbrev pub all_pieces : List ℕ → List ℕ → List ℕ
all_pieces b c = up_to (piece b c) (size b)
