-- The image that the contents of a text hold, ten bytes a frame.
use Rattle.std.specs.Prelude.{ℕ, ◌+◌, List, map}
use Rattle.words.specs.lists.Numbers.{range}
use Rattle.text.specs.frames.Frame.{field, pair_at, quad_at}
use Rattle.image.specs.declared.layout.TheConstants.{SCHEME_COUNT, LAST_LABEL, ROW_COUNT, HANDLER, ENTRY_LABEL, TICK_KIND, CALLED, OWNER}
use Rattle.image.specs.declared.layout.TheConstants.{LABEL_RESULT, LABEL_MASK, FROM, CARE, VALUES, FUNCTION_BIT, NEXT}
use Rattle.image.specs.Image.{Image, Label, Row}

-- H, the number of schemes
abbrev pub scheme_count : List ℕ → ℕ
scheme_count b = field b 0 SCHEME_COUNT

-- M, the last label
abbrev pub last_label : List ℕ → ℕ
last_label b = field b 0 LAST_LABEL

-- the number of rows
abbrev pub row_count : List ℕ → ℕ
row_count b = pair_at b 0 ROW_COUNT

-- the scheme of the handler, 0 for none
abbrev pub handler_in : List ℕ → ℕ
handler_in b = field b 0 HANDLER

-- where the frames of labels begin: those of entries begin at 1
abbrev pub labels_from : List ℕ → ℕ
labels_from b = 1 + scheme_count b

-- where those of rows begin
abbrev pub rows_from : List ℕ → ℕ
rows_from b = 2 + scheme_count b + last_label b

-- the label that scheme h starts with
abbrev pub entry_in : List ℕ → ℕ → ℕ
entry_in b h = field b h ENTRY_LABEL

-- label l, from its frame
abbrev pub label_in : List ℕ → ℕ → Label
label_in b l = let f = labels_from b + l in record {
  kind = field b f TICK_KIND;
  called = field b f CALLED;
  owner = field b f OWNER;
  result = field b f LABEL_RESULT;
  mask = quad_at b f LABEL_MASK;
}

-- the row in frame f
abbrev pub row_in_frame : List ℕ → ℕ → Row
row_in_frame b f = record {
  from = field b f FROM;
  care = pair_at b f CARE;
  values = pair_at b f VALUES;
  bit = field b f FUNCTION_BIT;
  next = field b f NEXT;
}

-- row k, from its frame
abbrev pub row_in : List ℕ → ℕ → Row
row_in b k = row_in_frame b (rows_from b + k)

-- all of it
unfoldable pub decoded_image : List ℕ → Image
decoded_image b = record {
  handler = handler_in b;
  entries = map (entry_in b) (range 1 (scheme_count b));
  labels = map (label_in b) (range 0 (last_label b + 1));
  rows = map (row_in b) (range 0 (row_count b));
}
