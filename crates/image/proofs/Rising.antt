-- Rows whose labels never fall: in a list, and in the frames of an accepted table.
use Rattle.std.proofs.Common.{ℕ, zero, suc, ◌+◌, ◌-◌, ◌≤◌, ◌<◌, ◌≡◌, ap, List, [], ◌∷◌, add-zero, arith, length, slice_index_or}
use Rattle.std.proofs.lemmas.Grind.{common_steps}
use Rattle.text.specs.frames.Frame.{size, field}
use Rattle.image.specs.Image.{Row, no_row, nth_row}
use Rattle.image.specs.Decode.{row_count, rows_from, row_in_frame, decoded_image}
use Rattle.image.specs.inner.Sound.{SoundImage}
use Rattle.image.proofs.Accepted.{rows-count, row-read}

-- rows whose labels do not fall, the first at least m
abbrev pub Rising : ℕ → List Row → Type 0
Rising m [] = Unit {0}
Rising m (r ∷ rs) = (m ≤ r.from) × Rising r.from rs

pub rising-at : (m : ℕ) (rs : List Row) → Rising m rs → (k : ℕ) → suc k < length rs → (slice_index_or rs k no_row).from ≤
    (slice_index_or rs (suc k) no_row).from
rising-at m [] a k h = absurd (omega arith)
rising-at m (r ∷ rs) a zero h = second rs a.1 (omega arith)
  where
    second : (rs : List Row) → Rising r.from rs → 0 < length rs → r.from ≤ (slice_index_or rs 0 no_row).from
    second [] b l = absurd (omega arith)
    second (s ∷ rs) b l = b.0
rising-at m (r ∷ rs) a (suc k) h = rising-at r.from rs a.1 k (omega arith)

-- ---- rows by their frames
module _ (b : List ℕ) (all : size b ≡ rows_from b + row_count b) where
  pub row-at : (f : ℕ) → rows_from b ≤ f → f < size b → nth_row (decoded_image b) (f - rows_from b) ≡ row_in_frame b f
  row-at f h g = grind (arith, common_steps, row-read)

  pub from-read : (f : ℕ) → rows_from b ≤ f → f < size b → (nth_row (decoded_image b) (f - rows_from b)).from ≡ field b f 1
  from-read f h g = ap (λ (r : Row). r.from) (row-at f h g)

  -- 12: labels never fall
  module _ (sound : SoundImage (decoded_image b)) where
    rises : (f : ℕ) → rows_from b ≤ f → suc f < size b → field b f 1 ≤ field b (suc f) 1
    rises f h g =
        let z : (nth_row (decoded_image b) (suc f - rows_from b)).from ≡ (nth_row (decoded_image b) (suc (f - rows_from b))).from =
        ap (λ (k : ℕ). (nth_row (decoded_image b) k).from) (omega arith) in
        omega (
          arith,
          z,
          from-read f h (omega arith),
          from-read (suc f) (omega arith) g,
          sound.rising (f - rows_from b) (omega (arith, rows-count b)),
        )

    pub rises-on : (f n : ℕ) → rows_from b ≤ f → f + n < size b → field b f 1 ≤ field b (f + n) 1
    rises-on f zero h g = grind (arith, common_steps, add-zero)
    rises-on f (suc n) h g = grind (arith, common_steps, rises-on f n h (omega arith), rises)
