-- The functions that find the conditions against the rows of a label, test by test and row by row.
use Rattle.std.proofs.Common.{if◌then◌else◌, ℕ, suc, ◌-◌, ◌≤◌, ◌<◌, min, Bool, true, ◌≡◌, ◌∙◌, ap, ap₂, List, slice_index}
use Rattle.std.proofs.Common.{arith, bit_and, bit_or, ne_eqb}
use Rattle.std.proofs.lemmas.Grind.{common_steps}
use Rattle.words.specs.lists.Numbers.{lowest}
use Rattle.words.proofs.lists.Searches.{lowest-below}
use Rattle.words.proofs.lists.Tests.{split}
use Rattle.words.specs.bits.Word.{is_agreeing}
use Rattle.text.specs.frames.Frame.{field, pair_at}
use Rattle.cause.specs.Cause.{is_differing}
use Rattle.cause.specs.inner.CauseContracts.{RowAsked, is_let_through, mask_against_in, mask_against_from}
use Rattle.cause.proofs.Masks.{low-differs}

-- ---- the search, from the highest condition down: low is the lowest of those passed
module _ (w care values : ℕ) where
  abbrev p : ℕ → Bool
  p = is_differing w care values

  pub record PassedCondition (low i : ℕ) : Type 0 where
    pub inside : i ≤ 16
    pub lowest : low ≡ lowest p i (16 - i)

  module _ (low i : ℕ) (x : PassedCondition low i) (some : 0 < i) (t : Bool) (e : t ≡ p (i - 1)) where
    pub passed-turn : (found : ℕ) → found ≡ (if t then i - 1 else low) → PassedCondition found (i - 1)
    passed-turn found h = record {
      inside = omega (arith, x.inside);
      lowest = h ∙ ap (λ (u : Bool). if u then i - 1 else low) e ∙ lowest-below p 16 i low some x.inside x.lowest;
    }

-- ---- the row in frame f: its bit, care mask and values as they were read
module _ (b : List ℕ) (f w bit : ℕ) (x : RowAsked b f) (bytes : (k : ℕ) → slice_index b k < 256) where
  abbrev care : ℕ
  care = pair_at b f 2

  abbrev values : ℕ
  values = pair_at b f 4

  module _ (t : Bool) (only : ℕ) (is : only ≡ field b f 6) (e : t ≡ is_let_through only bit) where
    module _ (h : t ≡ true) (c v : ℕ) (p : c ≡ care) (q : v ≡ values) where
      agrees-is : is_agreeing w c v ≡ is_agreeing w care values
      agrees-is = ap₂ (is_agreeing w) p q

      module _ (z : bit_and w c ≡ v → ⊥) (i : ℕ) (g : i ≡ lowest (is_differing w c v) 0 16) where
        low-is : i ≡ lowest (is_differing w care values) 0 16
        low-is = g ∙ ap₂ (λ (m n : ℕ). lowest (is_differing w m n) 0 16) p q

        pub low-condition : i < 16
        low-condition = grind (arith, common_steps, low-differs, ne_eqb, agrees-is, low-is)

-- ---- the loop over rows, from the last one down: those passed stand in the mask
module _ (b : List ℕ) (w bit first end : ℕ) where
  pub record JoinedMask (mask f : ℕ) : Type 0 where
    pub inside : f ≤ end
    pub reached : min first end ≤ f
    pub joined : mask ≡ mask_against_from b w bit f (end - f)

  pub joined-none : JoinedMask 0 end
  unfolding mask_against_from
  joined-none = grind (arith, common_steps)

  pub joined-more : (mask f r : ℕ) → JoinedMask mask f → first < f → r ≡ mask_against_in b w bit (f - 1)
      → JoinedMask (bit_or r mask) (f - 1)
  unfolding mask_against_from
  joined-more mask f r x h e = record {
    inside = omega (arith, x.inside);
    reached = omega arith;
    joined =
        ap₂ bit_or e (x.joined ∙ ap (λ (n : ℕ). mask_against_from b w bit n (end - f)) (let z : f ≡ suc (f - 1) = omega arith in z))
        ∙ ap (mask_against_from b w bit (f - 1)) (let z : suc (end - f) ≡ end - (f - 1) = omega (arith, x.inside) in z);
  }

  -- frames past the end
  over-end : (f : ℕ) → end ≤ f → mask_against_from b w bit f (end - f) ≡ 0
  unfolding mask_against_from
  over-end f h = ap (mask_against_from b w bit f) (let z : end - f ≡ 0 = omega arith in z)

  pub joined-all : (mask f : ℕ) → JoinedMask mask f → f ≤ first → mask ≡ mask_against_from b w bit first (end - first)
  joined-all mask f x h = grind (arith, common_steps, split, over-end)
