-- The text of a sound image reads back as that image.
use Rattle.std.proofs.Common.{ℕ, ◌+◌, ◌-◌, ◌<◌, ◌≡◌, ◌∙◌, ap, List, map, arith, length, slice_index}
use Rattle.std.proofs.lemmas.Grind.{common_steps}
use Rattle.words.specs.lists.Numbers.{range}
use Rattle.words.proofs.lists.Ranges.{map-count}
use Rattle.text.specs.frames.Frame.{field, contents}
use Rattle.image.specs.Image.{Image, label_frame, row_frame, image_text, no_row, nth_row}
use Rattle.image.specs.Decode.{scheme_count, last_label, row_count, handler_in, labels_from, rows_from, entry_in, label_in, row_in}
use Rattle.image.specs.Decode.{decoded_image}
use Rattle.image.specs.inner.Sound.{no_label, nth_label, SoundImage}
use Rattle.image.proofs.Written.{Reads, image-reads}

module _ (i : Image) (b : List ℕ) (S : SoundImage i) (R : Reads i b) where
  pub schemes-is : scheme_count b ≡ length i.entries
  schemes-is = R.head 1 (omega arith)

  pub last-is : last_label b ≡ length i.labels - 1
  last-is = R.head 2 (omega arith)

  pub rows-is : row_count b ≡ length i.rows
  rows-is = omega (arith, R.head 3 (omega arith), R.head 4 (omega arith))

  pub handler-is : handler_in b ≡ i.handler
  handler-is = R.head 5 (omega arith)

  label-at : (l k : ℕ) → l < length i.labels → k < 10 → field b (labels_from b + l) k ≡ slice_index (label_frame l (nth_label i l)) k
  label-at l k h m = ap (λ (f : ℕ). field b f k) (omega (arith, schemes-is)) ∙ R.label l k h m

  row-at : (j k : ℕ) → j < length i.rows → k < 10 → field b (rows_from b + j) k ≡ slice_index (row_frame (nth_row i j)) k
  row-at j k h m = ap (λ (f : ℕ). field b f k) (omega (arith, schemes-is, last-is, S.two)) ∙ R.row j k h m

  pub label-is : (l : ℕ) → l < length i.labels → label_in b l ≡ nth_label i l
  label-is l h = grind (arith, common_steps, label-at)

  pub row-is : (k : ℕ) → k < length i.rows → row_in b k ≡ nth_row i k
  row-is k h = grind (arith, common_steps, row-at)

  decoded-is : decoded_image b ≡ i
  unfolding decoded_image
  decoded-is =
      let e : map (entry_in b) (range 1 (scheme_count b)) ≡ i.entries =
      map-count (entry_in b) 0 i.entries 1 (scheme_count b) schemes-is (λ h l.
      ap (entry_in b) (omega arith) ∙ R.entry h 2 l (omega arith)) in
      let l : map (label_in b) (range 0 (last_label b + 1)) ≡ i.labels =
      map-count (label_in b) no_label i.labels 0 (last_label b + 1) (omega (arith, last-is, S.two))
      (λ l h. ap (label_in b) (omega arith) ∙ label-is l h) in
      let r : map (row_in b) (range 0 (row_count b)) ≡ i.rows =
      map-count (row_in b) no_row i.rows 0 (row_count b) rows-is (λ k h. ap (row_in b) (omega arith) ∙ row-is k h) in
      λ j. record { handler = handler-is j; entries = e j; labels = l j; rows = r j }

pub image-decoded : (i : Image) → SoundImage i → decoded_image (contents (image_text i)) ≡ i
image-decoded i S = decoded-is i (contents (image_text i)) S (image-reads i S)
