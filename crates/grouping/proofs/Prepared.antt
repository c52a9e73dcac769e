-- The table of an accepted image to which 23 does not apply is one that labels are grouped on.
use Rattle.std.proofs.Common.{ℕ, ◌+◌, ◌-◌, ◌≤◌, ◌<◌, false, ◌≡◌, ◌∙◌, List, map, arith, slice_index, slice_index_or}
use Rattle.words.specs.lists.Numbers.{range}
use Rattle.words.proofs.lists.Ranges.{get_or-map-range}
use Rattle.text.specs.frames.Frame.{field, contents}
use Rattle.text.specs.frames.Verdict.{fine}
use Rattle.image.specs.Image.{no_row}
use Rattle.image.specs.Decode.{last_label, rows_from, decoded_image, row_in_frame}
use Rattle.image.specs.Check.{table_verdict}
use Rattle.image.proofs.Accepted.{accepted-sound, image-table, image-bytes}
use Rattle.tables.specs.Prepare.{first_frame, noted_table}
use Rattle.tables.specs.Table.{first_on, end_on, row_on, rows_on}
use Rattle.tables.proofs.Noted.{noted-last, noted-late, noted-row, noted-rows-from}
use Rattle.tables.proofs.FirstFrames.{first-low, first-own}
use Rattle.tables.proofs.PreparedImage.{first-noted, end-noted, rows-own, prepared-image}
use Rattle.tables.proofs.Made.{MadeTable}
use Rattle.covering.specs.Matched.{is_uneven}
use Rattle.grouping.specs.inner.GroupingContracts.{Even}

module _ (b : List ℕ) (ok : table_verdict b ≡ fine) (bytes : (k : ℕ) → slice_index b k < 256) where
  noted-bits : (l f : ℕ) → 2 ≤ l → l ≤ last_label (noted_table b) → first_on (noted_table b) l ≤ f → f < end_on (noted_table b) l
      → (row_on (noted_table b) l f).bit ≡ field (noted_table b) f 6
  noted-bits l f a h low high =
      let hl : l ≤ last_label b = omega (arith, noted-last b) in
      let first : first_on (noted_table b) l ≡ first_frame b l = first-noted b ok bytes l (omega arith) hl in
      let end : end_on (noted_table b) l ≡ first_frame b (l + 1) = end-noted b ok bytes l hl in
      let k : ℕ = f - first_on (noted_table b) l in
      let mine : slice_index_or (rows_on (noted_table b) l) k no_row ≡ row_on (noted_table b) l (first_on (noted_table b) l + k) =
      get_or-map-range (row_on (noted_table b) l) no_row (first_on (noted_table b) l)
      (end_on (noted_table b) l - first_on (noted_table b) l) k (omega arith) in
      let its : slice_index_or (map (row_in_frame b) (range (first_frame b l) (first_frame b (l + 1) - first_frame b l)))
      k no_row ≡ row_in_frame b (first_frame b l + k) =
      get_or-map-range (row_in_frame b) no_row (first_frame b l) (first_frame b (l + 1) - first_frame b l) k (omega arith) in
      let at : first_on (noted_table b) l + k ≡ f = omega arith in
      let at' : first_frame b l + k ≡ f = omega arith in
      grind (arith, at, at', mine, its, rows-own b ok bytes l, noted-late b f 6)

  -- each row has its label
  noted-own : (l f : ℕ) → 2 ≤ l → l ≤ last_label (noted_table b) → first_on (noted_table b) l ≤ f → f < end_on (noted_table b) l
      → field (noted_table b) f 1 ≡ l
  noted-own l f a h low high =
      let hl : l ≤ last_label b = omega (arith, noted-last b) in
      let first : first_on (noted_table b) l ≡ first_frame b l = first-noted b ok bytes l (omega arith) hl in
      let end : end_on (noted_table b) l ≡ first_frame b (l + 1) = end-noted b ok bytes l hl in
      noted-row b f 1 (omega (arith, first-low b ok l)) (omega arith) ∙ first-own b ok bytes l f (omega arith) (omega arith)

  noted-behind : (l : ℕ) → 2 ≤ l → l ≤ last_label (noted_table b) → rows_from (noted_table b) ≤ first_on (noted_table b) l
  noted-behind l a h =
      let hl : l ≤ last_label b = omega (arith, noted-last b) in
      omega (arith, first-noted b ok bytes l (omega arith) hl, first-low b ok l, noted-rows-from b)

  pub noted-even : is_uneven (decoded_image b) ≡ false → Even (noted_table b)
  noted-even e = search (arith, accepted-sound, prepared-image, noted-bits, noted-own, noted-behind)

pub made-even : (t b : List ℕ) → MadeTable t b → is_uneven (decoded_image (contents t)) ≡ false → Even b
made-even t b made e =
    grind (arith, made.is, noted-even (contents t) (image-table t made.accepted) (image-bytes t made.accepted) e)
