-- The listing of an accepted image is exactly the rows of each label, and the frames that its ticks look at.
use Rattle.std.proofs.Common.{ℕ, ◌+◌, ◌-◌, ◌≤◌, ◌<◌, ◌≡◌, sym, ◌∙◌, ap, ◌⊎◌, inl, inr, ◌↔◌, List, map, arith, length, take, ◌==◌, slice_index, slice_index_or}
use Rattle.std.proofs.Common.{drop, length-take, length-drop, get_or-take, get_or-drop, ext_get_or, eq-eqb, ne_eqb, eqb-true}
use Rattle.std.proofs.lemmas.Grind.{common_steps}
use Rattle.words.specs.lists.Numbers.{lowest, range}
use Rattle.std.proofs.lemmas.Bool.{cond-true, cond-false}
use Rattle.words.proofs.lists.Tests.{no_both, split}
use Rattle.words.proofs.lists.Counts.{count-none}
use Rattle.words.proofs.lists.Ranges.{length-map-range, get_or-map-range}
use Rattle.text.specs.frames.Frame.{size, field, contents}
use Rattle.text.specs.frames.Verdict.{fine}
use Rattle.image.specs.Image.{Image, Row, nth_row, no_row}
use Rattle.image.specs.Decode.{last_label, rows_from, decoded_image, row_in_frame}
use Rattle.image.specs.Check.{table_verdict}
use Rattle.image.proofs.Accepted.{rows-count, row-read, counted, accepted-sound, image-table, image-bytes}
use Rattle.image.proofs.Rising.{from-read}
use Rattle.tables.specs.Prepare.{first_frame, noted_table}
use Rattle.tables.specs.Table.{first_on, end_on, rows_on}
use Rattle.tables.proofs.Noted.{noted-rows-from}
use Rattle.tables.proofs.FirstFrames.{first-low, first-inside, first-rises, at-least, below}
use Rattle.tables.proofs.PreparedImage.{first-noted, end-noted, rows-own}
use Rattle.rows.specs.listing.Listing.{is_row_leaving, row_count_of, first_of}
use Rattle.rows.specs.listing.Exact.{Own, Exactly, EmptyZero, LowZero, LooksAt, ListedFrames}
use Rattle.rows.proofs.listing.Between.{Between, count-between, lowest-between}

-- ---- any image: without rows 0 and 0
module _ (i : Image) (l : ℕ) where
  pub none-first : row_count_of i l ≡ 0 → first_of i l ≡ 0
  none-first e = cond-true (row_count_of i l == 0) 0 _ (eq-eqb (row_count_of i l) 0 e)

  pub some-first : (row_count_of i l ≡ 0 → ⊥) → first_of i l ≡ lowest (is_row_leaving i l) 0 (length i.rows)
  some-first h = cond-false (row_count_of i l == 0) 0 (lowest (is_row_leaving i l) 0 (length i.rows)) (ne_eqb (row_count_of i l) 0 h)

-- ---- an accepted table
module _ (b : List ℕ) (ok : table_verdict b ≡ fine) (bytes : (k : ℕ) → slice_index b k < 256) (l : ℕ) where
  abbrev i : Image
  i = decoded_image b

  -- the number of its first row, and the number after that of its last
  abbrev first : ℕ
  first = first_frame b l - rows_from b

  abbrev end : ℕ
  end = first_frame b (l + 1) - rows_from b

  rows-all : length i.rows ≡ size b - rows_from b
  rows-all = omega (arith, rows-count b, (counted b ok).all)

  from-is : (k : ℕ) → k < length i.rows → (nth_row i k).from ≡ field b (rows_from b + k) 1
  from-is k h =
      ap (λ (n : ℕ). (nth_row i n).from) (let e : k ≡ rows_from b + k - rows_from b = omega arith in e)
      ∙ from-read b (counted b ok).all (rows_from b + k) (omega arith) (omega (arith, rows-all))

  between : Between (is_row_leaving i l) (length i.rows) first end
  between = grind (arith, common_steps, first-rises, first-inside, eq-eqb, at-least, ne_eqb, below, rows-all, from-is)

  number-is : row_count_of i l ≡ end - first
  number-is = count-between (is_row_leaving i l) (length i.rows) first end between

  first-is : (row_count_of i l ≡ 0 → ⊥) → first_of i l ≡ first
  first-is h = some-first i l h ∙ lowest-between (is_row_leaving i l) (length i.rows) first end between (omega (arith, number-is))

  -- ---- the rows of label l
  own-inside : (k : ℕ) → Own i l k → (first ≤ k) × (k < end)
  own-inside k (h, q) = grind (arith, common_steps, eq-eqb, split, no_both, between)

  pub exactly-own : (k : ℕ) → Own i l k ↔ ((first_of i l ≤ k) × (k < first_of i l + row_count_of i l))
  exactly-own k = grind (arith, common_steps, split, eqb-true, none-first, between, number-is, first-is, own-inside)

  -- ---- by the frames of the prepared table
  module _ (low : 2 ≤ l) (high : l ≤ last_label b) where
    frames-low : rows_from (noted_table b) ≤ first_on (noted_table b) l
    frames-low = omega (arith, first-noted b ok bytes l (omega arith) high, noted-rows-from b, first-low b ok l)

    frames-first : (row_count_of i l ≡ 0 → ⊥) → first_on (noted_table b) l ≡ rows_from (noted_table b) + first_of i l
    frames-first h = omega (arith, first-noted b ok bytes l (omega arith) high, first-is h, noted-rows-from b, first-low b ok l)

    frames-end : end_on (noted_table b) l ≡ first_on (noted_table b) l + row_count_of i l
    frames-end = grind (arith, common_steps, first-low, first-rises, end-noted, first-noted, number-is)

    frames-rows : rows_on (noted_table b) l ≡ take (row_count_of i l) (drop (first_of i l) i.rows)
    frames-rows =
        rows-own b ok bytes l (omega arith) high
        ∙ ext_get_or no_row own listed (omega (arith, own-length, listed-length)) (λ j h. same j (omega (arith, own-length)))
      where
        n : ℕ
        n = first_frame b (l + 1) - first_frame b l

        own : List Row
        own = map (row_in_frame b) (range (first_frame b l) n)

        listed : List Row
        listed = take (row_count_of i l) (drop (first_of i l) i.rows)

        count-is : row_count_of i l ≡ n
        count-is = omega (arith, number-is, first-low b ok l)

        most : end ≤ length i.rows
        most = between.most

        own-length : length own ≡ n
        own-length = length-map-range (row_in_frame b) (first_frame b l) n

        listed-length : length listed ≡ n
        listed-length = go (split 0 n)
          where
            go : (0 < n) ⊎ (n ≤ 0) → length listed ≡ n
            go (inl h) = omega (
              arith,
              length-take (row_count_of i l) (drop (first_of i l) i.rows),
              length-drop (first_of i l) i.rows,
              count-is,
              number-is,
              first-is (λ z. omega (arith, count-is)),
              most,
            )
            go (inr h) = omega (arith, length-take (row_count_of i l) (drop (first_of i l) i.rows), count-is)

        same : (j : ℕ) → j < n → slice_index_or own j no_row ≡ slice_index_or listed j no_row
        same j h =
            let e : first_of i l ≡ first = first-is (λ z. omega (arith, count-is)) in
            get_or-map-range (row_in_frame b) no_row (first_frame b l) n j h
            ∙ ap (row_in_frame b) (let z : first_frame b l + j ≡ rows_from b + (first_of i l + j) = omega (arith, first-low b ok l) in z)
            ∙ sym (row-read b (first_of i l + j) (omega (arith, most, count-is, number-is, rows-count b)))
            ∙ sym (get_or-take (row_count_of i l) (drop (first_of i l) i.rows) j no_row (omega (arith, count-is))
            ∙ get_or-drop (first_of i l) i.rows j no_row)

    pub looks-at : LooksAt (noted_table b) i l
    looks-at = record { low = frames-low; first = frames-first; end = frames-end; rows = frames-rows }

-- ---- of every accepted image
pub low-none : (b : List ℕ) → table_verdict b ≡ fine → ((k : ℕ) → slice_index b k < 256) → (l : ℕ) → l < 2
    → row_count_of (decoded_image b) l ≡ 0
low-none b ok bytes l h =
    count-none (is_row_leaving (decoded_image b) l) 0 (length (decoded_image b).rows)
    (λ k p q. ne_eqb (nth_row (decoded_image b) k).from l (λ e. omega (arith, ((accepted-sound b ok bytes).each k (omega arith)).low)))

pub exactly : Exactly
unfolding Exactly
exactly t ok l k = exactly-own (contents t) (image-table t ok) (image-bytes t ok) l k

pub empty-zero : EmptyZero
unfolding EmptyZero
empty-zero t l h =
    let i : Image = decoded_image (contents t) in
    let e : row_count_of i l ≡ 0 = count-none (is_row_leaving i l) 0 (length i.rows)
    (λ k p q. ne_eqb (nth_row i k).from l (λ z. h k (omega arith, z))) in
    (none-first i l e, e)

pub low-zero : LowZero
unfolding LowZero
low-zero t ok l h = grind (arith, common_steps, image-bytes, image-table, none-first, low-none)

pub listed-frames : ListedFrames
unfolding ListedFrames
listed-frames t ok l low high = looks-at (contents t) (image-table t ok) (image-bytes t ok) l low high
