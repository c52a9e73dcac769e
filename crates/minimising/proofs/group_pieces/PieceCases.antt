-- Cases of the functions that write the pieces.
use Rattle.std.proofs.Common.{if◌then◌else◌, ℕ, ◌+◌, ◌-◌, ◌≤◌, ◌<◌, ◌≡◌, refl, ap, List, [], arith, length, slice_index}
use Rattle.std.proofs.Common.{eq-eqb, ne_eqb}
use Rattle.std.proofs.lemmas.Grind.{common_steps}
use Rattle.words.specs.lists.Sequences.{written}
use Rattle.std.proofs.lemmas.Bool.{cond-true, cond-false}
use Rattle.text.specs.frames.Frame.{size, field, frame_text}
use Rattle.text.proofs.frames.FrameLoops.{length-frame}
use Rattle.image.specs.Image.{entry_frame, label_frame, row_frame}
use Rattle.image.specs.Decode.{scheme_count, last_label, row_count, handler_in, labels_from, rows_from, label_in, decoded_image, row_in_frame}
use Rattle.image.specs.Check.{label_position, position_of}
use Rattle.image.specs.inner.Sound.{SoundRow}
use Rattle.image.proofs.Accepted.{entries-count, labels-count, rows-count, entry-read, row-read, position-of-entry, position-of-label}
use Rattle.image.proofs.Accepted.{position-of-row}
use Rattle.translator.specs.inner.LabelBytes.{header_bytes, up_to, Put}
use Rattle.translator.proofs.label_text.Puts.{Appended, appended-start, appended-room, appended-on, appended-done}
use Rattle.grouping.specs.Classes.{is_first}
use Rattle.minimising.specs.group_numbers.Smaller.{renumbered_row}
use Rattle.minimising.specs.inner.GroupFrames.{header_piece, row_numbered_by}
use Rattle.minimising.specs.inner.Pieces.{groups_in, rows_kept, piece_at, piece, all_pieces}
use Rattle.minimising.specs.inner.TextContracts.{NumberedGroups}
use Rattle.image.specs.Decode as decode

-- ---- a piece that is one frame
module _ (t frame : List ℕ) (out : List ℕ) (at : ℕ) where
  pub frame-room : t ≡ frame_text frame → length frame ≡ 10 → (m : ℕ) → at + length t ≤ m → at + 23 ≤ m
  frame-room e h m r = omega (arith, ap (λ (xs : List ℕ). length xs) e, length-frame frame h)

  pub frame-put : t ≡ frame_text frame → length frame ≡ 10 → (out' : List ℕ)
      → out' ≡ written out at (frame_text frame) → Put out at t (at + 23) out'
  frame-put e h out' q = grind (arith, common_steps, length-frame)

module _ (b c numbers : List ℕ) (N : NumberedGroups b c numbers) (f : ℕ) where
  table-all : size b ≡ rows_from b + row_count b
  table-all = N.table.all

  -- ---- put_kept_label
  module _ (low : labels_from b ≤ f) (high : f < rows_from b) (m : ℕ) (e : m ≡ labels_from b) where
    abbrev l : ℕ
    l = f - m

    label-low : l ≤ last_label b
    label-low = omega arith

    at-label : position_of b f ≡ label_position l
    at-label = grind (arith, position-of-label b l)

    pub label-skip : (slice_index c l ≡ l → ⊥) → piece b c f ≡ []
    label-skip n = grind (arith, common_steps, cond-false, ne_eqb, at-label)

    pub label-kept : slice_index c l ≡ l → piece b c f ≡ frame_text (label_frame (slice_index numbers l) (label_in b (f - labels_from b)))
    label-kept q = grind (arith, common_steps, eq-eqb, cond-true, label-low, at-label)

  -- ---- put_kept_row
  module _ (low : rows_from b ≤ f) (high : f < size b) (x : ℕ) (e : x ≡ field b f 1) where
    abbrev k : ℕ
    k = f - rows_from b

    inside : k < row_count b
    inside = omega (arith, table-all)

    row-is : decode.row_in b k ≡ row_in_frame b f
    row-is = grind arith

    sound-row : SoundRow (decoded_image b) (row_in_frame b f)
    sound-row = grind (arith, row-read b k, row-is, inside, rows-count b, N.table.image.each k)

    led-is : row_numbered_by numbers (row_in_frame b f) ≡ renumbered_row c (row_in_frame b f)
    led-is = grind (arith, labels-count, inside, sound-row)

    at-row : piece_at b c (position_of b f) ≡ (if is_first c x then frame_text (row_frame (renumbered_row c (row_in_frame b f))) else [])
    at-row = grind (arith, position-of-row b k, row-is)

    pub row-skip : (slice_index c x ≡ x → ⊥) → piece b c f ≡ []
    row-skip n = grind (arith, common_steps, cond-false, ne_eqb, at-row)

    pub row-kept : slice_index c x ≡ x → piece b c f ≡ frame_text (row_frame (row_numbered_by numbers (row_in_frame b f)))
    row-kept q = grind (arith, common_steps, eq-eqb, cond-true, led-is, at-row)

  -- ---- put_piece
  module _ (low : 1 ≤ f) (m : ℕ) (e : m ≡ labels_from b) (high : f < m) where
    entry-inside : field b f 2 ≤ last_label b
    entry-inside = grind (arith, entries-count b, labels-count b, entry-read b (f - 1), N.table.image.starts (f - 1))

    pub entry-kept : (y : ℕ) → y ≡ field b f 2 → piece b c f ≡ frame_text (entry_frame f (slice_index numbers y))
    entry-kept y q = grind (arith, common_steps, position-of-entry, entry-inside)

-- ---- put_pieces
module _ (b c numbers : List ℕ) (N : NumberedGroups b c numbers) (s g r h : ℕ) (e₁ : s ≡ scheme_count b)
    (e₂ : g ≡ groups_in b c) (e₃ : r ≡ rows_kept b c)
    (e₄ : h ≡ handler_in b) where
  header-kept : piece b c 0 ≡ header_piece s g r h
  unfolding position_of
  header-kept = grind (arith, common_steps)

  module _ (out : List ℕ) (room : length (all_pieces b c) ≤ length out) where
    some : 0 < size b
    some = omega (arith, N.table.all)

    room-n : 0 + length (all_pieces b c) ≤ length out
    room-n = omega arith

    pub header-first : (out' : List ℕ) → out' ≡ written out 0 (header_piece s g r h) → Appended (piece b c) out out' 0 23 (size b) 1
    header-first out' q = appended-on (piece b c) out out 0 0 (size b) 0 (appended-start (piece b c) out 0 (size b))
        (omega (arith, some)) room-n out' 23
        (frame-put (piece b c 0) (header_bytes s (g - 1) r h) out 0 header-kept refl out' q)

    pub header-room : 23 ≤ length out
    header-room = grind (arith, appended-room (piece b c) out out 0 0 (size b) 0, appended-start (piece b c) out 0 (size b), frame-room (piece b c 0) (header_bytes s (g - 1) r h) out 0, header-kept, some)

-- what a loop that starts behind the header has written into the buffer, whatever stood there before the header
pub record Rest (piece : ℕ → List ℕ) (out₀ out : List ℕ) (place n f : ℕ) : Type 0 where
  pub low : 1 ≤ f
  pub done : (old : List ℕ) → Appended piece old out₀ 0 23 n 1 → Appended piece old out 0 place n f

module _ (piece : ℕ → List ℕ) (out₀ out : List ℕ) (place n f : ℕ) (t : Rest piece out₀ out place n f) (old : List ℕ)
    (a : Appended piece old out₀ 0 23 n 1) where
  module _ (h : f < n) (room : length (up_to piece n) ≤ length old) where
    pub rest-room : place + length (piece f) ≤ length out
    rest-room = appended-room piece old out 0 place n f (t.done old a) h (omega arith)

    pub rest-on : (out' : List ℕ) (place' : ℕ) → Put out place (piece f) place' out' → Rest piece out₀ out' place' n (f + 1)
    rest-on out' place' p = record {
      low = omega arith;
      done = λ other x. appended-on piece other out 0 place n f (t.done other x) h (omega (arith, x.size, a.size)) out' place' p;
    }

  pub rest-all : n ≤ f → out ≡ written old 0 (up_to piece n)
  rest-all h = appended-done piece old out 0 place n f (t.done old a) h
