-- Cases of what is written: the classes in a buffer make the smaller image, whose text is as long as the counts say.
use Rattle.std.proofs.Common.{ℕ, ◌+◌, ◌-◌, ◌*◌, ◌≤◌, ◌<◌, ◌≡◌, refl, sym, ◌∙◌, ap, subst, true, List, map, arith, length, count_by, Ok, ◌==◌, slice_index, filter}
use Rattle.std.proofs.Common.{Err}
use Rattle.std.proofs.lemmas.Grind.{common_steps}
use Rattle.std.specs.List.{range_with_len}
use Rattle.words.specs.lists.Numbers.{range, count}
use Rattle.words.specs.lists.Sequences.{written, over}
use Rattle.words.proofs.lists.Counts.{count-alike}
use Rattle.words.proofs.lists.Elements.{map-all, filter-all}
use Rattle.words.proofs.lists.Joins.{all-places, all-of, all-filter, all-range}
use Rattle.words.proofs.lists.Written.{written-front}
use Rattle.text.specs.frames.Frame.{size, field}
use Rattle.text.specs.frames.Verdict.{fine}
use Rattle.text.specs.frames.Answer.{GivesBuffer}
use Rattle.text.specs.declared.frames.refusals.Refusal.TheVariants.{NoRoom}
use Rattle.text.proofs.frames.Lent.{lent-short, lent-done}
use Rattle.text.proofs.frames.Texts.{text-length}
use Rattle.image.specs.Image.{Image, Row, image_text}
use Rattle.image.specs.Decode.{scheme_count, last_label, rows_from, decoded_image}
use Rattle.image.specs.inner.Sound.{SoundRow, SoundImage}
use Rattle.image.proofs.Written.{frames-length, image-frames}
use Rattle.image.proofs.Accepted.{entries-count, labels-count}
use Rattle.state.specs.State.{label_at}
use Rattle.covering.proofs.Chains.{count-chain}
use Rattle.covering.proofs.Covered.{sound-rows}
use Rattle.covering.proofs.Hits.{one-row}
use Rattle.grouping.specs.Classes.{class_of, is_first, grouping}
use Rattle.grouping.proofs.Rounds.{ClassRound, group-round}
use Rattle.minimising.specs.group_numbers.Smaller.{renumbered_label, renumbered_row, joined_labels, smaller_image}
use Rattle.minimising.specs.inner.NumberContracts.{LowestOfClass, group_numbers}
use Rattle.minimising.proofs.group_numbers.NumberCases.{number-at}
use Rattle.minimising.proofs.group_numbers.Numbering.{joined-sound}
use Rattle.minimising.specs.inner.Pieces.{groups_in, rows_kept, all_pieces}
use Rattle.minimising.specs.inner.TextContracts.{NumberedGroups}
use Rattle.minimising.proofs.group_text.PieceLaws.{groups-are, rows-are, entries-are, pieces-are}
use Rattle.minimising.specs.inner.WriteContracts.{Grouped, smaller_outcome}

-- what is counted before anything is written
pub record CountedFirst (b buffer numbers : List ℕ) (schemes groups rows : ℕ) : Type 0 where
  pub sixteen : schemes ≤ 16
  pub groups-kept : groups ≡ groups_in b buffer
  pub rows-kept : rows ≡ rows_kept b buffer
  pub some : 1 ≤ groups
  pub few-groups : groups ≤ 256
  pub few-rows : rows ≤ 1024
  pub numbered : length numbers ≡ 256 → NumberedGroups b buffer numbers
  pub long : length (image_text (smaller_image (decoded_image b))) ≡ 23 * (1 + schemes + groups + rows)
  pub text : all_pieces b buffer ≡ image_text (smaller_image (decoded_image b))

module _ (b buffer : List ℕ) (G : Grouped b buffer) where
  abbrev i : Image
  i = decoded_image b

  S : SoundImage (decoded_image b)
  S = G.table.image

  R : ClassRound (decoded_image b) (grouping (decoded_image b))
  R = group-round i S (one-row i S G.even)

  abbrev n : ℕ
  n = length i.labels

  abbrev c : List ℕ
  c = grouping i

  inside : (l : ℕ) → l < n → slice_index buffer l ≡ class_of c l
  inside l k = G.classes.at l (omega (arith, labels-count b))

  pub buffer-lowest : (last : ℕ) → last ≡ last_label b → LowestOfClass buffer (last + 1)
  buffer-lowest last e = grind (arith, common_steps, labels-count, R, inside)

  first-same : (l : ℕ) → l < n → is_first buffer l ≡ is_first c l
  first-same l k = ap (λ (x : ℕ). x == l) (inside l k)

  number-same : (l : ℕ) → l < n → renumbered_label buffer l ≡ renumbered_label c l
  number-same l k = grind (arith, common_steps, inside, count-alike, first-same, R.below l)

  row-same : (r : Row) → SoundRow i r × (is_first c r.from ≡ true) → renumbered_row buffer r ≡ renumbered_row c r
  row-same r x = grind (arith, common_steps, inside, number-same)

  joined-same : joined_labels i buffer ≡ smaller_image i
  unfolding joined_labels
  joined-same =
      let e : map (renumbered_label buffer) i.entries ≡ map (renumbered_label c) i.entries =
      map-all (renumbered_label buffer) (renumbered_label c) i.entries
      (all-places (λ l. renumbered_label buffer l ≡ renumbered_label c l) 0 i.entries
      (λ k m. number-same (slice_index i.entries k) (S.starts k m).inside)) in
      let l : map (label_at i) (filter (is_first buffer) (range 0 n)) ≡ map (label_at i) (filter (is_first c) (range 0 n)) =
      ap (map (label_at i)) (filter-all (is_first buffer) (is_first c) (range 0 n)
      (all-range (λ l. is_first buffer l ≡ is_first c l) 0 n (λ k m. first-same (0 + k) (omega arith)))) in
      let r : map (renumbered_row buffer) (filter (λ r. is_first buffer r.from) i.rows) ≡ map
      (renumbered_row c) (filter (λ r. is_first c r.from) i.rows) =
      ap (map (renumbered_row buffer)) (filter-all (λ r. is_first buffer r.from) (λ r. is_first c r.from) i.rows
      (all-of (SoundRow i) (λ r. is_first buffer r.from ≡ is_first c r.from)
      (λ r s. first-same r.from s.high) i.rows (sound-rows i S)))
      ∙ map-all (renumbered_row buffer) (renumbered_row c) (filter (λ r. is_first c r.from) i.rows)
      (all-of (λ r. SoundRow i r × (is_first c r.from ≡ true)) (λ r. renumbered_row buffer r ≡ renumbered_row c r)
      row-same (filter (λ r. is_first c r.from) i.rows)
      (all-filter (SoundRow i) (λ r. is_first c r.from) i.rows (sound-rows i S))) in
      λ j. record { handler = i.handler; entries = e j; labels = l j; rows = r j }

  sound : SoundImage (joined_labels i buffer)
  sound = subst SoundImage (sym joined-same) (joined-sound i S (grouping i) R)

  pieces-smaller : all_pieces b buffer ≡ image_text (smaller_image i)
  pieces-smaller = grind (arith, pieces-are, joined-same)

  module _ (numbers : List ℕ) (schemes last first groups rows : ℕ) (e₁ : schemes ≡ scheme_count b)
      (e₂ : last ≡ last_label b) (e₃ : first ≡ rows_from b)
      (unwritten : List ℕ) (N : numbers ≡ over (group_numbers buffer (last + 1)) unwritten)
      (G₁ : groups ≡ count (is_first buffer) 0 (last + 1))
      (K : rows ≡ count_by (λ f. is_first buffer (field b f 1)) (range_with_len first (size b - first))) where
    groups-is : groups ≡ groups_in b buffer
    groups-is = grind arith

    rows-is : rows ≡ rows_kept b buffer
    rows-is = grind (arith, common_steps, count-chain)

    groups-some : 1 ≤ groups
    groups-some = omega (arith, groups-is, groups-are b buffer G.table.all, sound.two)

    groups-most : groups ≤ 256
    groups-most = omega (arith, groups-is, groups-are b buffer G.table.all, sound.last)

    rows-few : rows ≤ 1024
    rows-few = omega (arith, rows-is, rows-are b buffer G.table.all, sound.few)

    abbrev need : ℕ
    need = 23 * (1 + schemes + groups + rows)

    smaller-long : length (image_text (smaller_image i)) ≡ need
    unfolding image_text
    smaller-long = grind (arith, text-length, rows-are, frames-length, image-frames, entries-are, groups-are, joined-same, sound, groups-is, rows-is)

    pub counts : CountedFirst b buffer numbers schemes groups rows
    counts = grind (arith, number-at, entries-count, S, pieces-smaller, groups-is, rows-is, groups-some, groups-most, rows-few, smaller-long)

module _ (b buffer numbers : List ℕ) (schemes groups rows : ℕ) (C : CountedFirst b buffer numbers schemes groups rows) (old : List ℕ) where
  pub smaller-short : length old < 23 * (1 + schemes + groups + rows) → GivesBuffer (smaller_outcome b fine old) (Err NoRoom) old
  smaller-short g = lent-short fine 1 (λ _. image_text (smaller_image (decoded_image b))) old refl (omega (arith, C.long))

  pub pieces-room : 23 * (1 + schemes + groups + rows) ≤ length old → length (all_pieces b buffer) ≤ length old
  pieces-room g = omega (arith, ap (λ (xs : List ℕ). length xs) C.text, C.long)

  pub smaller-done : 23 * (1 + schemes + groups + rows) ≤ length old → (out : List ℕ) → out ≡ written old 0 (all_pieces b buffer)
      → GivesBuffer (smaller_outcome b fine old) (Ok (23 * (1 + schemes + groups + rows))) out
  smaller-done g out e = grind (arith, common_steps, lent-done, written-front)
