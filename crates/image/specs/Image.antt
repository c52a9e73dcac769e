-- The image (the paper's word for the table that the machine steps through): the handler, entries, labels and rows, and its frames.
use Rattle.std.specs.Prelude.{ℕ, ◌-◌, List, [], ◌∷◌, ◌++◌, map, length, replicate, slice_index_or}
use Rattle.words.specs.lists.Sequences.{map_from}
use Rattle.text.specs.frames.Frame.{pair, quad, frames_text}
use Rattle.image.specs.declared.layout.TheConstants.{HEADER, ENTRY, LABEL, ROW, PLAIN, RETURN, HOME}

-- kind: the tick kind
pub record Label : Type 0 where
  pub kind : ℕ
  pub called : ℕ
  pub owner : ℕ
  pub result : ℕ
  pub mask : ℕ

-- by its fields
abbrev pub label_with : ℕ → ℕ → ℕ → ℕ → ℕ → Label
label_with k g o r m = record { kind = k; called = g; owner = o; result = r; mask = m }

-- what an image has where it has no label
abbrev pub no_label : Label
no_label = record { kind = PLAIN; called = 0; owner = 0; result = 0; mask = 0 }

-- label 0 of every image: home
abbrev pub home_label : Label
home_label = record { kind = HOME; called = 0; owner = 1; result = 0; mask = 0 }

-- label 1 of every image: a return
abbrev pub return_label : Label
return_label = record { kind = RETURN; called = 0; owner = 0; result = 0; mask = 0 }

-- bit: the function bit, or NO_BIT
pub record Row : Type 0 where
  pub from : ℕ
  pub care : ℕ
  pub values : ℕ
  pub bit : ℕ
  pub next : ℕ

-- by its fields
abbrev pub row : ℕ → ℕ → ℕ → ℕ → ℕ → Row
row l c v b n = record { from = l; care = c; values = v; bit = b; next = n }

-- what an image has where it has no row
abbrev pub no_row : Row
no_row = record { from = 0; care = 0; values = 0; bit = 0; next = 0 }

-- handler: the scheme that a call which finds the stack full drops to, 0 for none
pub record Image : Type 0 where
  pub handler : ℕ
  pub entries : List ℕ
  pub labels : List Label
  pub rows : List Row

-- row k
abbrev pub nth_row : Image → ℕ → Row
nth_row i k = slice_index_or i.rows k no_row

-- ---- its frames, ten bytes each
abbrev pub header_frame : Image → List ℕ
header_frame i = HEADER ∷ length i.entries ∷ (length i.labels - 1) ∷ pair (length i.rows) ++ (i.handler ∷ replicate 4 0)

-- the entry of scheme h, label l
abbrev pub entry_frame : ℕ → ℕ → List ℕ
entry_frame h l = ENTRY ∷ h ∷ l ∷ replicate 7 0

-- label l
abbrev pub label_frame : ℕ → Label → List ℕ
label_frame l x = LABEL ∷ l ∷ x.kind ∷ x.called ∷ x.owner ∷ x.result ∷ quad x.mask

-- a row
abbrev pub row_frame : Row → List ℕ
row_frame r = ROW ∷ r.from ∷ pair r.care ++ (pair r.values ++ (r.bit ∷ r.next ∷ 0 ∷ 0 ∷ []))

-- header, entries, labels, rows
unfoldable pub image_frames : Image → List (List ℕ)
image_frames i = header_frame i ∷ map_from entry_frame 1 i.entries ++ (map_from label_frame 0 i.labels ++ map row_frame i.rows)

-- the text of an image
unfoldable pub image_text : Image → List ℕ
image_text i = frames_text (image_frames i)
