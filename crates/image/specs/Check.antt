-- Why an image is refused: refusals 1 to 3 and 11 to 13.
use Rattle.std.specs.Prelude.{ℕ, zero, suc, ◌+◌, ◌-◌, Bool, false, ◌&&◌, ◌||◌, not, List, if◌then◌else◌, nat_lt, nat_le, ◌==◌}
use Rattle.std.specs.Int.Bits.{bit_and}
use Rattle.words.specs.lists.Numbers.{any}
use Rattle.text.specs.declared.frames.sizes.TheConstants.{SCHEMES, ROWS, IMAGE_TEXT}
use Rattle.text.specs.declared.frames.refusals.TheConstants.{BAD_HEADER, STRAY_FRAME, BAD_CONTENT}
use Rattle.text.specs.frames.Frame.{size, field, contents}
use Rattle.text.specs.frames.Verdict.{Verdict, next, when, at_lowest}
use Rattle.text.specs.frames.Check.{text_verdict}
use Rattle.image.specs.declared.layout.TheConstants.{HEADER, ENTRY, LABEL, ROW, FRAME_KIND, NUMBER, NO_BIT, PLAIN, FUNCTION_CALL, RETURN}
use Rattle.image.specs.declared.layout.TheConstants.{HOME}
use Rattle.image.specs.Image.{Label, Row}
use Rattle.image.specs.Decode.{scheme_count, last_label, row_count, handler_in, labels_from, rows_from, entry_in, label_in, row_in}

-- n bytes of frame f from k on are not all 0
abbrev pub is_filled : List ℕ → ℕ → ℕ → ℕ → Bool
is_filled b f k n = any (λ j. not (field b f j == 0)) k n

-- 11
abbrev pub has_bad_counts : List ℕ → Bool
has_bad_counts b = scheme_count b == 0 || nat_lt SCHEMES (scheme_count b) || last_label b == 0 || nat_lt ROWS (row_count b)

-- the handler is 0 or a scheme of 2 to H
abbrev pub has_bad_handler : List ℕ → Bool
has_bad_handler b = not (handler_in b == 0) && (nat_lt (handler_in b) 2 || nat_lt (scheme_count b) (handler_in b))

-- another kind, a byte that is to be 0, wrong counts, or another number of frames than they make
unfoldable pub is_bad_header : List ℕ → Bool
is_bad_header b =
    not (field b 0 FRAME_KIND == HEADER) || is_filled b 0 6 4 || has_bad_handler b || has_bad_counts b
    || not (size b == rows_from b + row_count b)

-- a frame of an image by its position: header, the entry of a scheme, a label, a row
pub data Position : Type 0 where
  header_position : Position
  entry_position : ℕ → Position
  label_position : ℕ → Position
  row_position : ℕ → Position

-- header, entries, labels and rows follow one another
unfoldable pub position_of : List ℕ → ℕ → Position
position_of b f =
    if f == 0 then header_position
    else if nat_lt f (labels_from b) then entry_position f
    else if nat_lt f (rows_from b) then label_position (f - labels_from b)
    else row_position (f - rows_from b)

-- 12. Byte 0 or byte 1 is not what the position asks for, or rows are out of order.
abbrev pub is_falling : List ℕ → ℕ → Bool
is_falling b zero = false
is_falling b (suc k) = nat_lt (row_in b (suc k)).from (row_in b k).from

-- a frame that does not belong at its position
abbrev pub is_stray_frame : List ℕ → ℕ → Position → Bool
is_stray_frame b f header_position = false
is_stray_frame b f (entry_position h) = not (field b f FRAME_KIND == ENTRY && field b f NUMBER == h)
is_stray_frame b f (label_position l) = not (field b f FRAME_KIND == LABEL && field b f NUMBER == l)
is_stray_frame b f (row_position k) = not (field b f FRAME_KIND == ROW) || is_falling b k

-- 12 refuses frame f
unfoldable pub is_stray : List ℕ → ℕ → Bool
is_stray b f = is_stray_frame b f (position_of b f)

-- 13. A label of the image that scheme h owns, or the one where h ends.
abbrev pub is_within : List ℕ → ℕ → ℕ → Bool
is_within b h l = nat_le l (last_label b) && ((label_in b l).owner == h || l == (if h == 1 then 0 else 1))

-- a byte that it has no use for, or a label where the scheme may not start
abbrev pub is_bad_entry : List ℕ → ℕ → Bool
is_bad_entry b h = is_filled b h 3 7 || not (is_within b h (entry_in b h))

-- every field as given
abbrev pub is_label : ℕ → ℕ → Label → Bool
is_label k h x = x.kind == k && x.called == 0 && x.owner == h && x.result == 0 && x.mask == 0

-- kind 0 calls nothing, kinds 1 and 2 a scheme of 2 to H
abbrev pub has_bad_called : List ℕ → Label → Bool
has_bad_called b x = if x.kind == PLAIN then not (x.called == 0) else nat_lt x.called 2 || nat_lt (scheme_count b) x.called

-- 0 and 1 are as in every image, the others within their values
abbrev pub is_bad_label : List ℕ → ℕ → Label → Bool
is_bad_label b zero x = not (is_label HOME 1 x)
is_bad_label b (suc zero) x = not (is_label RETURN 0 x)
is_bad_label b (suc (suc l)) x =
    nat_lt FUNCTION_CALL x.kind || x.owner == 0 || nat_lt (scheme_count b) x.owner || nat_lt 2 x.result || has_bad_called b x

-- a bit other than 2 needs the label of a function call
abbrev pub has_bad_bit : List ℕ → Row → Bool
has_bad_bit b r = nat_lt NO_BIT r.bit || (nat_lt r.bit NO_BIT && not ((label_in b r.from).kind == FUNCTION_CALL))

-- a label that it cannot leave or lead to, a test or a bit that it cannot make, or a byte that it has no use for
abbrev pub is_bad_row : List ℕ → ℕ → Row → Bool
is_bad_row b f r =
    nat_lt r.from 2 || nat_lt (last_label b) r.from || not (bit_and r.values r.care == r.values)
    || has_bad_bit b r || not (is_within b (label_in b r.from).owner r.next) || is_filled b f 8 2

-- by its position
abbrev pub is_bad_frame : List ℕ → ℕ → Position → Bool
is_bad_frame b f header_position = false
is_bad_frame b f (entry_position h) = is_bad_entry b h
is_bad_frame b f (label_position l) = is_bad_label b l (label_in b l)
is_bad_frame b f (row_position k) = is_bad_row b f (row_in b k)

-- 13 refuses frame f
unfoldable pub has_bad_content : List ℕ → ℕ → Bool
has_bad_content b f = is_bad_frame b f (position_of b f)

-- of the contents of a text
unfoldable pub table_verdict : List ℕ → Verdict
table_verdict b =
    next (when BAD_HEADER (is_bad_header b)) λ _.
    next (at_lowest STRAY_FRAME (is_stray b) (size b)) λ _.
    at_lowest BAD_CONTENT (has_bad_content b) (size b)

-- of an image's text
unfoldable pub image_verdict : List ℕ → Verdict
image_verdict t = next (text_verdict IMAGE_TEXT t) λ _. table_verdict (contents t)
