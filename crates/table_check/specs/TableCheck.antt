-- Why bytes are no prepared table: refusals 11 to 13 as the image check has them, and the frames that labels note.
use Rattle.std.specs.Prelude.{ℕ, ◌+◌, ◌-◌, ◌%◌, Bool, ◌&&◌, ◌||◌, not, List, length, nat_lt, nat_le, ◌==◌}
use Rattle.text.specs.declared.frames.sizes.TheConstants.{FRAME}
use Rattle.text.specs.declared.frames.refusals.TheConstants.{BAD_HEADER, STRAY_FRAME, BAD_CONTENT}
use Rattle.text.specs.frames.Frame.{size}
use Rattle.text.specs.frames.Verdict.{Verdict, next, when, at_lowest}
use Rattle.image.specs.Decode.{labels_from, rows_from}
use Rattle.image.specs.Check.{is_bad_header, is_stray, has_bad_content}
use Rattle.tables.specs.Prepare.{first_frame}
use Rattle.tables.specs.Table.{noted_in}

-- 11, with parts of a frame left over; the header counts all frames that there are
abbrev pub is_no_table : List ℕ → Bool
is_no_table b = not (length b % FRAME == 0) || is_bad_header b

-- the frame of a label, in whose first two bytes a table has its note
abbrev pub is_noted : List ℕ → ℕ → Bool
is_noted b f = nat_le (labels_from b) f && nat_lt f (rows_from b)

-- 12, of the other frames
abbrev pub is_displaced : List ℕ → ℕ → Bool
is_displaced b f = not (is_noted b f) && is_stray b f

-- 13: a label that notes another frame than that at which its rows end
abbrev pub is_misnoted : List ℕ → ℕ → Bool
is_misnoted b f = let l = f - labels_from b in is_noted b f && not (noted_in b l == first_frame b (l + 1))

unfoldable pub prepared_verdict : List ℕ → Verdict
prepared_verdict b =
    next (when BAD_HEADER (is_no_table b)) λ _.
    next (at_lowest STRAY_FRAME (is_displaced b) (size b)) λ _.
    next (at_lowest BAD_CONTENT (has_bad_content b) (size b)) λ _.
    at_lowest BAD_CONTENT (is_misnoted b) (size b)
