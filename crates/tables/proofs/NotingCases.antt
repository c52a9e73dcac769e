-- The loop that notes where the rows of each label end: the search for a label goes on where the one before it ended.
use Rattle.std.proofs.Common.{ℕ, ◌+◌, ◌-◌, ◌/◌, ◌%◌, ◌≤◌, ◌<◌, false, ◌≡◌, List, add-one, arith, set, leb-false}
use borrow.Author.Tests.{lt-leb}
use Rattle.std.proofs.lemmas.Grind.{common_steps}
use Rattle.words.specs.lists.Numbers.{lowest}
use Rattle.words.proofs.lists.Searches.{lowest-above, lowest-inside, lowest-from, lowest-alike}
use Rattle.text.specs.frames.Frame.{size, field}
use Rattle.text.specs.frames.Verdict.{fine}
use Rattle.image.specs.Decode.{last_label, row_count, rows_from}
use Rattle.image.specs.Check.{table_verdict}
use Rattle.image.proofs.Accepted.{counted}
use Rattle.tables.specs.Prepare.{is_row_reached, first_frame, noted_to}
use Rattle.tables.proofs.Noted.{rows-inside, place, noted-to-row}

-- a row that leaves no label from l on leaves none from a higher one on
pub below-more : (b : List ℕ) (l m : ℕ) → l ≤ m → (f : ℕ) → is_row_reached b l f ≡ false → is_row_reached b m f ≡ false
below-more b l m h f e = lt-leb m (field b f 1) (omega (arith, leb-false l (field b f 1) e))

-- after l labels: no row before frame f leaves a label from l on
pub record Notes (b out : List ℕ) (f l : ℕ) : Type 0 where
  pub is : out ≡ noted_to b l
  pub low : l ≤ last_label b + 1
  pub behind : rows_from b ≤ f
  pub inside : f ≤ size b
  pub rest : (m : ℕ) → l ≤ m → lowest (is_row_reached b m) f (size b - f) ≡ first_frame b m

module _ (b : List ℕ) (ok : table_verdict b ≡ fine) where
  -- the frames that the header counts are all
  pub counted-end : (f r : ℕ) → f ≡ rows_from b → r ≡ row_count b → f + r ≡ size b
  counted-end f r e q = omega (arith, e, q, (counted b ok).all)

  pub notes-start : (f : ℕ) → f ≡ rows_from b → Notes b b f 0
  unfolding noted_to
  notes-start f e = grind (arith, common_steps, rows-inside)

  module _ {out : List ℕ} {f l : ℕ} (t : Notes b out f l) where
    module _ {end next : ℕ} (all : end ≡ size b) (e : next ≡ lowest (is_row_reached out (l + 1)) f (end - f)) where
      -- the rows of the table are still as they were
      same-rows : next ≡ lowest (is_row_reached b (l + 1)) f (size b - f)
      same-rows = grind (arith, common_steps, noted-to-row, lowest-alike)

      next-inside : next ≤ size b
      next-inside = omega (arith, same-rows, lowest-inside (is_row_reached b (l + 1)) f (size b) t.inside)

      -- a frame's number fits two bytes
      pub notes-small : last_label b < 256 → next < 65536
      notes-small h = omega (arith, (counted b ok).most, (counted b ok).few, (counted b ok).all, next-inside)

      pub notes-turn : (at : ℕ) → at ≡ place b l → l ≤ last_label b
          → Notes b (set (set out at (next % 256)) (at + 1) (next / 256)) next (l + 1)
      unfolding noted_to
      notes-turn at is h = grind (arith, common_steps, place, lowest-above, lowest-from, add-one, below-more, same-rows, next-inside)
