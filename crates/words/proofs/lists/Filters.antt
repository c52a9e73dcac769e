-- Laws of filters over any elements: over joined lists, where nothing passes, and where just one does.
use Rattle.std.proofs.Common.{◌≡◌, refl, ◌∙◌, ap, Bool, true, false, List, [], ◌∷◌, ◌++◌, ℕ, zero, slice_index_or, flat_map, filter}
use Rattle.std.proofs.Common.{suc, ◌+◌, ◌≤◌, ◌<◌, eq-or-lt_of_le, arith, length}
use Rattle.std.proofs.lemmas.Grind.{common_steps}
use Rattle.words.specs.lists.Numbers.{range}
use Rattle.words.proofs.lists.Tests.{no_both, cases}
use Rattle.words.proofs.lists.Ranges.{filter-yes, filter-no}
use Rattle.words.proofs.lists.Joins.{concat-cons}
use Rattle.std.proofs.lemmas.Bool.{cases_Bool}

module _ {A : Type 0} (p : A → Bool) where
  pub filter-none : filter p [] ≡ []
  filter-none = refl

  pub filter-append : (xs ys : List A) → filter p (xs ++ ys) ≡ filter p xs ++ filter p ys
  filter-append [] ys = grind (arith, common_steps, filter-none)
  filter-append (x ∷ xs) ys = grind (arith, common_steps, filter-append xs ys, filter-yes, filter-no)

  -- nothing is kept, so none passes
  pub none-passes : (d : A) (xs : List A) → length (filter p xs) ≡ 0 → (i : ℕ) → i < length xs → p (slice_index_or xs i d) ≡ false
  none-passes d [] e i l = grind (arith, common_steps)
  none-passes d (x ∷ xs) e i l = grind (arith, common_steps, none-passes d xs, cases_Bool (p x), filter-no, filter-yes)

  -- where at most one is kept, two places that pass are the same
  pub one-passes : (d : A) (xs : List A) → length (filter p xs) ≤ 1 → (i j : ℕ) → i < length xs → j < length xs
      → p (slice_index_or xs i d) ≡ true → p (slice_index_or xs j d) ≡ true → i ≡ j
  one-passes d [] e i j li lj a b = grind (arith, common_steps)
  one-passes d (x ∷ xs) e i j li lj a b = grind (arith, common_steps, one-passes d xs, cases_Bool (p x), filter-no, no_both, filter-yes, none-passes)

-- ---- lists joined over the numbers that pass, where all but one of them are empty
module _ {B : Type 0} (f : ℕ → List B) (p : ℕ → Bool) where
  kept : (i n : ℕ) → p i ≡ true → flat_map f (filter p (range i (suc n))) ≡ f i ++ flat_map f (filter p (range (suc i) n))
  kept i n e = ap (flat_map f) (filter-yes p i (range (suc i) n) e) ∙ concat-cons f i (filter p (range (suc i) n))

  left : (i n : ℕ) → p i ≡ false → flat_map f (filter p (range i (suc n))) ≡ flat_map f (filter p (range (suc i) n))
  left i n e = ap (flat_map f) (filter-no p i (range (suc i) n) e)

  pub concat-nothing : (i n : ℕ) → ((u : ℕ) → i ≤ u → u < i + n → p u ≡ true → f u ≡ []) → flat_map f (filter p (range i n)) ≡ []
  concat-nothing i zero h = grind (arith, common_steps)
  concat-nothing i (suc n) h = grind (arith, common_steps, concat-nothing (suc i) n (λ u a b. h u (omega arith) (omega arith)), cases (p i), kept, left)

  pub concat-only : (v i n : ℕ) → i ≤ v → v < i + n → p v ≡ true
      → ((u : ℕ) → i ≤ u → u < i + n → p u ≡ true → (u ≡ v → ⊥) → f u ≡ []) → flat_map f (filter p (range i n)) ≡ f v
  concat-only v i zero lo hi t h = grind (arith, common_steps)
  concat-only v i (suc n) lo hi t h = grind (arith, common_steps, λ (q : suc i ≤ v). concat-only v (suc i) n q (omega arith) t (λ u a b. h u (omega arith) (omega arith)), cases (p i), eq-or-lt_of_le lo, no_both, kept, left, concat-nothing)

-- ---- at most one passes
module _ {A : Type 0} (p : A → Bool) (d : A) where
  none-pass : (xs : List A) → ((j : ℕ) → j < length xs → p (slice_index_or xs j d) ≡ true → ⊥) → length (filter p xs) ≡ 0
  none-pass [] h = ap (λ ys. length ys) (filter-none p)
  none-pass (x ∷ xs) h = go (p x) refl (none-pass xs (λ j a. h (suc j) (omega arith)))
    where
      go : (t : Bool) → p x ≡ t → length (filter p xs) ≡ 0 → length (filter p (x ∷ xs)) ≡ 0
      go true e ih = absurd (h 0 (omega arith) e)
      go false e ih = ap (λ ys. length ys) (filter-no p x xs e) ∙ ih

  pub few-pass : (xs : List A) → ((j k : ℕ) → j < length xs → k < j → p (slice_index_or xs j d) ≡ true → p (slice_index_or xs k d) ≡ true → ⊥)
      → length (filter p xs) ≤ 1
  few-pass [] h = omega (arith, ap (λ ys. length ys) (filter-none p))
  few-pass (x ∷ xs) h = go (p x) refl (few-pass xs (λ j k a b. h (suc j) (suc k) (omega arith) (omega arith)))
    where
      go : (t : Bool) → p x ≡ t → length (filter p xs) ≤ 1 → length (filter p (x ∷ xs)) ≤ 1
      go true e ih = grind (arith, common_steps, filter-yes p x xs e, none-pass xs (λ j a q. h (suc j) 0 (omega arith) (omega arith) q e))
      go false e ih = omega (arith, ap (λ ys. length ys) (filter-no p x xs e))
