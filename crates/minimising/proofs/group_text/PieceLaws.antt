-- The pieces of all frames, joined, are the text of the smaller image.
use Rattle.std.proofs.Common.{if◌then◌else◌, ℕ, zero, suc, ◌+◌, ◌≤◌, ◌<◌, ◌≡◌, refl, ◌∙◌, ap, Bool, true, false, List, [], ◌++◌, flat_map, filter}
use Rattle.std.proofs.Common.{map, append-nil, zero-add, arith, length, eqb-true}
use Rattle.std.proofs.Math.ListN.{length-map}
use Rattle.std.proofs.lemmas.Grind.{common_steps}
use Rattle.words.specs.lists.Numbers.{range, count}
use Rattle.words.specs.lists.Sequences.{map_from}
use Rattle.std.proofs.lemmas.Bool.{cond-true, cond-false}
use Rattle.words.proofs.lists.Counts.{count-snoc, count-le}
use Rattle.words.proofs.lists.Ranges.{filter-yes, filter-no, length-filter}
use Rattle.words.proofs.lists.Filters.{filter-none}
use Rattle.words.proofs.lists.Joins.{concat-cons, concat-append, concat-split}
use Rattle.text.specs.frames.Frame.{size, field, frame_text, frames_text}
use Rattle.image.specs.Image.{Image, Label, Row, header_frame, entry_frame, label_frame, row_frame, image_frames, image_text}
use Rattle.image.specs.Decode.{scheme_count, last_label, row_count, labels_from, rows_from, entry_in, row_in, decoded_image}
use Rattle.image.specs.Check.{label_position, position_of}
use Rattle.image.proofs.Accepted.{entries-count, labels-count, label-read, position-of-entry, position-of-label, position-of-row}
use Rattle.grouping.specs.Classes.{is_first}
use Rattle.minimising.specs.group_numbers.Smaller.{renumbered_label, renumbered_row, joined_labels}
use Rattle.minimising.specs.inner.Pieces.{groups_in, rows_kept, piece_at, piece}
use Rattle.state.specs.State as machine

-- ---- joined lists over ranges
concat-one : (f : ℕ → List ℕ) (a : ℕ) → flat_map f (range a 1) ≡ f a
concat-one f a = append-nil (f a)

concat-moved : {B : Type 0} (f g : ℕ → List B) (s a m : ℕ) → ((k : ℕ) → a ≤ k → k < a + m → f (s + k) ≡ g k)
    → flat_map f (range (s + a) m) ≡ flat_map g (range a m)
concat-moved f g s a zero h = grind (arith, common_steps)
concat-moved f g s a (suc m) h = grind (arith, common_steps, concat-moved f g s (suc a) m (λ k l u. h k (omega arith) (omega arith)))

module _ (c : List ℕ) where
  entries-text : (e : ℕ → ℕ) (a m : ℕ)
      → frames_text (map_from entry_frame a (map (renumbered_label c) (map e (range a m)))) ≡ flat_map
      (λ h. frame_text (entry_frame h (renumbered_label c (e h))))
      (range a m)
  unfolding map_from
  entries-text e a zero = refl
  entries-text e a (suc m) = grind (arith, common_steps, entries-text e (suc a) m)

  abbrev kept : (ℕ → Label) → ℕ → List ℕ
  kept x l = if is_first c l then frame_text (label_frame (count (is_first c) 0 l) (x l)) else []

  labels-text : (x : ℕ → Label) (a m s : ℕ) → s ≡ count (is_first c) 0 a
      → frames_text (map_from label_frame s (map x (filter (is_first c) (range a m)))) ≡ flat_map (kept x) (range a m)
  unfolding map_from
  labels-text x a zero s e = grind (arith, common_steps, filter-none)
  labels-text x a (suc m) s e = go (is_first c a) refl (labels-text x (suc a) m (suc s)) (labels-text x (suc a) m s)
    where
      tail : (t : Bool) → is_first c a ≡ t → count (is_first c) 0 (suc a) ≡ count (is_first c) 0 a + (if t then 1 else 0)
      tail t q = count-snoc (is_first c) 0 a ∙ ap (λ (u : Bool). count (is_first c) 0 a + (if u then 1 else 0))
          (ap (is_first c) (zero-add a) ∙ q)

      go : (t : Bool) → is_first c a ≡ t
          → (suc s ≡ count (is_first c) 0 (suc a)
          → frames_text (map_from label_frame (suc s) (map x (filter (is_first c) (range (suc a) m))))
          ≡ flat_map (kept x) (range (suc a) m))
          → (s ≡ count (is_first c) 0 (suc a)
          → frames_text (map_from label_frame s (map x (filter (is_first c) (range (suc a) m)))) ≡ flat_map (kept x) (range (suc a) m))
          → frames_text (map_from label_frame s (map x (filter (is_first c) (range a (suc m))))) ≡ kept
          x a ++ flat_map (kept x) (range (suc a) m)
      go true q ih _ =
          ap (λ (ls : List ℕ). frames_text (map_from label_frame s (map x ls))) (filter-yes (is_first c) a (range (suc a) m) q)
          ∙ (grind (arith, common_steps, cond-true, tail true q, ih))
      go false q _ ih =
          ap (λ (ls : List ℕ). frames_text (map_from label_frame s (map x ls))) (filter-no (is_first c) a (range (suc a) m) q)
          ∙ (grind (arith, common_steps, cond-false, tail false q, ih))

  abbrev row_piece : Row → List ℕ
  row_piece r = if is_first c r.from then frame_text (row_frame (renumbered_row c r)) else []

  rows-text : (x : ℕ → Row) (a m : ℕ)
      → frames_text (map row_frame (map (renumbered_row c) (filter (λ r. is_first c r.from) (map x (range a m))))) ≡ flat_map
      (λ k. row_piece (x k)) (range a m)
  rows-text x a zero = grind (arith, common_steps, filter-none)
  rows-text x a (suc m) = grind (arith, common_steps, rows-text x (suc a) m, cond-false, filter-no, cond-true, filter-yes)

  rows-number : (x : ℕ → Row) (a m : ℕ)
      → length (filter (λ r. is_first c r.from) (map x (range a m))) ≡ count (λ k. is_first c (x k).from) a m
  unfolding count
  rows-number x a zero = grind (arith, common_steps, filter-none)
  rows-number x a (suc m) = grind (arith, common_steps, rows-number x (suc a) m, filter-no, filter-yes)

pub count-moved : (p q : ℕ → Bool) (s a m : ℕ) → ((k : ℕ) → a ≤ k → k < a + m → p (s + k) ≡ q k) → count p (s + a) m ≡ count q a m
unfolding count
count-moved p q s a zero h = grind (arith, common_steps)
count-moved p q s a (suc m) h = grind (arith, common_steps, count-moved p q s (suc a) m (λ k l u. h k (omega arith) (omega arith)))

module _ (b c : List ℕ) (all : size b ≡ rows_from b + row_count b) where
  abbrev i : Image
  i = decoded_image b

  abbrev H : ℕ
  H = scheme_count b

  abbrev n : ℕ
  n = last_label b + 1

  abbrev R : ℕ
  R = row_count b

  -- ---- the four parts of the text
  entries-part : frames_text (map_from entry_frame 1 (joined_labels i c).entries) ≡ flat_map (piece b c) (range 1 H)
  unfolding joined_labels decoded_image
  entries-part = grind (arith, entries-text c (entry_in b) 1 H, concat-moved (piece b c) (λ h. frame_text (entry_frame h (renumbered_label c (entry_in b h)))) 0 1 H, position-of-entry)

  label-piece : (l : ℕ) → l ≤ last_label b → kept c (machine.label_at i) l ≡ piece_at b c (label_position l)
  label-piece l h = grind (arith, common_steps, cond-true, eqb-true, cond-false, label-read)

  labels-part : frames_text (map_from label_frame 0 (joined_labels i c).labels) ≡ flat_map (piece b c) (range (labels_from b + 0) n)
  unfolding joined_labels
  labels-part = grind (arith, common_steps, labels-count, count-le, position-of-label, concat-moved, labels-text, label-piece)

  rows-part : frames_text (map row_frame (joined_labels i c).rows) ≡ flat_map (piece b c) (range (rows_from b + 0) R)
  unfolding joined_labels decoded_image
  rows-part = grind (arith, common_steps, position-of-row, concat-moved, rows-text)

  pub groups-are : length (joined_labels i c).labels ≡ groups_in b c
  unfolding joined_labels
  groups-are = grind (arith, common_steps, length-map, length-filter, labels-count)

  pub rows-are : length (joined_labels i c).rows ≡ rows_kept b c
  unfolding joined_labels decoded_image
  rows-are = grind (arith, length-map, rows-number c (row_in b) 0 R, count-moved (λ f. is_first c (field b f 1)) (λ k. is_first c (row_in b k).from) (rows_from b) 0 R)

  pub entries-are : length (joined_labels i c).entries ≡ H
  unfolding joined_labels
  entries-are = grind (arith, length-map, entries-count)

  header-part : frame_text (header_frame (joined_labels i c)) ≡ piece b c 0
  unfolding position_of joined_labels decoded_image
  header-part = grind (arith, groups-are, rows-are, entries-are)

  -- ---- all of it
  pub pieces-are : flat_map (piece b c) (range 0 (size b)) ≡ image_text (joined_labels i c)
  unfolding image_text image_frames
  pieces-are =
      let p : ℕ → List ℕ = piece b c in
      grind (arith, all, concat-split p 0 1 (H + (n + R)), concat-split p 1 H (n + R), concat-split p (1 + H) n R, concat-one p 0, header-part, entries-part, labels-part, rows-part, concat-append, concat-cons)
