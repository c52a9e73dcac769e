-- The notes of labels: the loop that makes them, and that they are enough with the marks.
use Rattle.std.proofs.Common.{ℕ, zero, suc, ◌+◌, ◌-◌, ◌≤◌, ◌<◌, ◌≡◌, subst, List, arith, slice_index}
use Rattle.std.proofs.Common.{length, replicate}
use Rattle.std.proofs.Math.ListN.{length-replicate}
use Rattle.std.proofs.lemmas.Grind.{common_steps}
use Rattle.text.specs.frames.Frame.{field}
use Rattle.image.specs.Decode.{last_label, rows_from}
use Rattle.tables.specs.Table.{table_end}
use Rattle.grouping.specs.inner.GroupingContracts.{Even, Advanced, Noted}
use Rattle.grouping.proofs.Marked.{next-marks}
use Rattle.grouping.specs.inner.Parts.{PartsMarked}
use Rattle.grouping.proofs.Labelled.{parts-kept}
use Rattle.grouping.specs.inner.Touches.{raised, notes_after, notes, RoundMarked}
use Rattle.std.proofs.lemmas.Bool.Decides.{nat_tests}

-- ---- one note raised
raised-long : (xs : List ℕ) (label mark : ℕ) → length (raised xs label mark) ≡ length xs
raised-long xs label mark = grind (arith, common_steps)

raised-over : (xs : List ℕ) (label mark p : ℕ) → label < length xs → slice_index xs p ≤ slice_index (raised xs label mark) p
raised-over xs label mark p h = grind (arith, common_steps, nat_tests)

raised-own : (xs : List ℕ) (label mark : ℕ) → label < length xs → mark ≤ slice_index (raised xs label mark) label
raised-own xs label mark h = grind (arith, common_steps, nat_tests)

module _ (b marks : List ℕ) where
  -- the rows before frame f are noted
  pub record Touching (out : List ℕ) (f : ℕ) : Type 0 where
    pub low : rows_from b ≤ f
    pub is : out ≡ notes_after b marks (f - rows_from b)

  pub touching-start : (out : List ℕ) (f : ℕ) → out ≡ replicate 256 0 → f ≡ rows_from b → Touching out f
  unfolding notes_after
  touching-start out f e q = grind (arith, common_steps)

  pub touching-turn : (out out' : List ℕ) (f label next : ℕ) → Touching out f → label ≡ field b f 1 → next ≡ field b f 7
      → out' ≡ raised out label (slice_index marks next) → Touching out' (f + 1)
  unfolding notes_after
  touching-turn out out' f label next t p q e = record {
    low = omega (arith, t.low);
    is = let at : f + 1 - rows_from b ≡ suc (f - rows_from b) = omega (arith, t.low) in grind (arith, t.is, t.low, at);
  }

  pub touching-all : (out : List ℕ) (f : ℕ) → Touching out f → table_end b ≤ f → f ≤ table_end b → out ≡ notes b marks
  touching-all out f t h g = grind (arith, t.is)

  notes-long : (n : ℕ) → length (notes_after b marks n) ≡ 256
  unfolding notes_after
  notes-long zero = grind (arith, length-replicate)
  notes-long (suc n) = grind (arith, raised-long, notes-long n)

  module _ (bytes : (k : ℕ) → slice_index b k < 256) where
    notes-most : (n k : ℕ) → k < n
        → slice_index marks (field b (rows_from b + k) 7) ≤ slice_index (notes_after b marks n) (field b (rows_from b + k) 1)
    unfolding notes_after
    notes-most zero k h = absurd (omega arith)
    notes-most (suc n) k h =
        grind (arith, notes-most n k, notes-long n, raised-over (notes_after b marks n), raised-own (notes_after b marks n), bytes)

    -- ---- what the notes say
    pub notes-noted : Even b → Noted b marks (last_label b + 1) (notes b marks)
    notes-noted x l f al hl u v =
        grind (arith, x.own l f, x.behind l, notes-most (table_end b - rows_from b) (f - rows_from b))

-- ---- the marks after a round
pub round-marked : (b : List ℕ) → Even b → ((k : ℕ) → slice_index b k < 256) → (classes next : List ℕ) → Advanced b classes next
    → (n : ℕ) → n ≡ last_label b + 1 → n ≤ 256
    → {marks₀ touched₀ kept₀ marks counts kept : List ℕ} → length marks₀ ≡ 256
    → PartsMarked classes next marks₀ touched₀ kept₀ n marks counts kept → (touched : List ℕ) → touched ≡ notes b marks
    → RoundMarked b classes next marks₀ touched₀ kept₀ marks touched kept
round-marked b x bytes classes next a n count few {marks₀ = marks₀} {touched₀ = touched₀} {kept₀ = kept₀} {marks = marks}
    {counts = counts} {kept = kept} long p touched e = record {
      counts = counts;
      parts = subst (λ (m : ℕ). PartsMarked classes next marks₀ touched₀ kept₀ m marks counts kept) count p;
      noted = e;
      marked = next-marks b x a.rounds classes a.before next a.after n count marks (parts-kept p long few) touched
          (grind (arith, notes-long b marks (table_end b - rows_from b))) (grind (arith, notes-noted b marks bytes x));
    }
