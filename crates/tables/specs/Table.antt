-- The image that any bytes hold when they are taken for a prepared table; refusal 11 of such bytes.
use Rattle.std.specs.Prelude.{ℕ, zero, suc, ◌+◌, ◌*◌, ◌-◌, min, Bool, ◌||◌, List, map, if◌then◌else◌, nat_lt, ◌==◌, flat_map}
use Rattle.words.specs.lists.Numbers.{range}
use Rattle.text.specs.frames.Frame.{size, field, pair_at}
use Rattle.image.specs.declared.layout.TheConstants.{CARE, VALUES, FUNCTION_BIT, NEXT, NO_BIT, PLAIN, FUNCTION_CALL}
use Rattle.image.specs.Image.{Image, Label, Row, no_label, home_label, return_label}
use Rattle.image.specs.Decode.{scheme_count, last_label, row_count, handler_in, labels_from, rows_from, entry_in, label_in}
use Rattle.image.specs.Check.{has_bad_counts, has_bad_handler}

-- how many frames the header counts; bytes behind them are no part of the table
abbrev pub table_end : List ℕ → ℕ
table_end b = rows_from b + row_count b

-- 11: counts or a handler outside their values, or fewer frames than counted
abbrev pub is_bad_table : List ℕ → Bool
is_bad_table b = has_bad_counts b || has_bad_handler b || nat_lt (size b) (table_end b)

-- labels 0 and 1 are the same in every image; of any other label a kind above 2 counts as 0, and a called scheme above H as none
abbrev pub label_on : List ℕ → ℕ → Label
label_on b zero = home_label
label_on b (suc zero) = return_label
label_on b (suc (suc l)) = let x = label_in b (suc (suc l)) in record {
  kind = if nat_lt FUNCTION_CALL x.kind then PLAIN else x.kind;
  called = if nat_lt (scheme_count b) x.called then 0 else x.called;
  owner = x.owner;
  result = x.result;
  mask = x.mask;
}

-- label l of the image; one above M holds nothing
abbrev pub table_label : List ℕ → ℕ → Label
table_label b l = if nat_lt (last_label b) l then no_label else label_on b l

-- the frame noted in that of label l, at which its rows end: those of the next label begin there, and none stands past the table
abbrev pub noted_in : List ℕ → ℕ → ℕ
noted_in b l = let f = labels_from b + l in field b f 0 + field b f 1 * 256

abbrev pub first_on : List ℕ → ℕ → ℕ
first_on b l = noted_in b (l - 1)

abbrev pub end_on : List ℕ → ℕ → ℕ
end_on b l = min (noted_in b l) (table_end b)

-- the function bit counts only in the rows of a label that calls a function
abbrev pub row_on : List ℕ → ℕ → ℕ → Row
row_on b l f = record {
  from = l;
  care = pair_at b f CARE;
  values = pair_at b f VALUES;
  bit = if (table_label b l).kind == FUNCTION_CALL then field b f FUNCTION_BIT else NO_BIT;
  next = field b f NEXT;
}

abbrev pub rows_on : List ℕ → ℕ → List Row
rows_on b l = let f = first_on b l in map (row_on b l) (range f (end_on b l - f))

unfoldable pub table_image : List ℕ → Image
table_image b = record {
  handler = handler_in b;
  entries = map (entry_in b) (range 1 (scheme_count b));
  labels = map (label_on b) (range 0 (last_label b + 1));
  rows = flat_map (rows_on b) (range 2 (last_label b - 1));
}
