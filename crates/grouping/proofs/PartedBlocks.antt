-- Rows of a label that part it from another, whose rows are taken in blocks.
use Rattle.std.proofs.Common.{ℕ, ◌+◌, ◌-◌, ◌≤◌, ◌<◌, Bool, true, false, ◌&&◌, ◌||◌, not, ◌≡◌, ◌∙◌, ap, List, arith, ◌==◌, slice_index}
use Rattle.std.proofs.lemmas.Grind.{common_steps}
use Rattle.text.specs.frames.Frame.{field}
use Rattle.image.specs.declared.layout.TheConstants.{NEXT}
use Rattle.image.specs.Decode.{row_in_frame}
use Rattle.covering.specs.inner.Sharing.{Shares, is_agreeing_with}
use Rattle.covering.proofs.Chains.{chain-none}
use Rattle.covering.proofs.Sharing.{chain-split, chain-both, differs-from}
use Rattle.grouping.specs.inner.GroupingContracts.{is_parting_in, is_parting_any, is_parted_in}

and-or : (a b c : Bool) → (a && (b || c)) ≡ ((a && b) || (a && c))
and-or a b c = grind (arith, common_steps)

and-none : (a : Bool) → (a && false) ≡ false
and-none a = grind (arith, common_steps)

module _ (b c : List ℕ) where
  -- a row that does not agree with what the others share parts its label from none of theirs
  pub parts-none : (f first end care values : ℕ) → Shares b first end care values
      → is_agreeing_with care values (row_in_frame b f) ≡ false → is_parting_any b c f first end ≡ false
  parts-none f first end care values s e = chain-none (is_parting_in b c f) first (end - first) (λ k h.
      ap (λ (t : Bool). not (slice_index c (field b f NEXT) == slice_index c (field b (first + k) NEXT)) && t)
      (differs-from b first end care values s (row_in_frame b f) e (first + k) (omega arith) (omega arith))
      ∙ and-none (not (slice_index c (field b f NEXT) == slice_index c (field b (first + k) NEXT))))

  module _ (marks : List ℕ) (least m end : ℕ) where
    abbrev parted : ℕ → ℕ → Bool
    parted from to = is_parted_in b c marks least m from to

    parted-split : (from next : ℕ) → from ≤ next → next ≤ end → parted from end ≡ (parted from next || parted next end)
    parted-split from next h g = grind (arith, chain-split, chain-both, and-or)

    parted-none : (from : ℕ) → end ≤ from → parted from end ≡ false
    parted-none from h = grind (arith, chain-none, and-none)

    -- the rows from frame `from` up to end are left
    pub record Parting (first from : ℕ) : Type 0 where
      pub left : parted from end ≡ parted first end

    module _ (first from next : ℕ) (t : Parting first from) (low : from < next) (high : next ≤ end) (x : Bool)
        (p : x ≡ parted from next) where
      pub parting-hit : x ≡ true → true ≡ parted first end
      parting-hit e = grind (arith, parted-split from next)

      pub parting-on : x ≡ false → Parting first next
      parting-on e = grind (arith, parted-split)

    pub parting-over : (first from : ℕ) → Parting first from → end ≤ from → false ≡ parted first end
    parting-over first from t h = grind (arith, parted-none from, t.left)
