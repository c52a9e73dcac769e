-- The kind of a frame by its position, which a function of the code finds by itself.
use Rattle.std.specs.Prelude.{ℕ}
use Rattle.image.specs.declared.layout.TheConstants.{HEADER, ENTRY, LABEL, ROW}
use Rattle.image.specs.Check.{Position, header_position, entry_position, label_position, row_position}

-- the kind byte that a frame has by its position
abbrev pub position_kind : Position → ℕ
position_kind header_position = HEADER
position_kind (entry_position h) = ENTRY
position_kind (label_position l) = LABEL
position_kind (row_position k) = ROW
