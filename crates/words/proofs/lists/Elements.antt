-- Lists mapped, filtered and joined, by what holds of each element and by ranges of numbers.
use Rattle.std.proofs.Common.{ℕ, zero, suc, ◌+◌, ◌-◌, ◌≤◌, ◌<◌, Bool, true, false, ◌≡◌, refl, ◌∙◌, ap, ap₂, List, [], ◌∷◌, ◌++◌, map, flat_map, filter, append-nil}
use Rattle.std.proofs.Common.{arith}
use Rattle.std.proofs.lemmas.Grind.{common_steps}
use Rattle.words.specs.lists.Numbers.{range}
use Rattle.std.specs.List.{AllByRecursion}
use Rattle.words.proofs.lists.Ranges.{map-append, filter-yes, filter-no}
use Rattle.words.proofs.lists.Filters.{filter-append, filter-none}
use Rattle.words.proofs.lists.Joins.{all-every, concat-split}

-- ---- mapped
pub map-all : {A B : Type 0} (f g : A → B) (xs : List A) → AllByRecursion (λ x. f x ≡ g x) xs → map f xs ≡ map g xs
map-all f g [] a = refl
map-all f g (x ∷ xs) a = ap₂ (λ y ys. y ∷ ys) a.0 (map-all f g xs a.1)

pub map-alike : {A B : Type 0} (f g : A → B) → ((x : A) → f x ≡ g x) → (xs : List A) → map f xs ≡ map g xs
map-alike f g e xs = map-all f g xs (all-every (λ x. f x ≡ g x) e xs)

pub map-own : {A : Type 0} (f : A → A) (xs : List A) → AllByRecursion (λ x. f x ≡ x) xs → map f xs ≡ xs
map-own f [] a = refl
map-own f (x ∷ xs) a = ap₂ (λ y ys. y ∷ ys) a.0 (map-own f xs a.1)

pub map-map : {A B C : Type 0} (f : A → B) (g : B → C) (xs : List A) → map g (map f xs) ≡ map (λ x. g (f x)) xs
map-map f g [] = refl
map-map f g (x ∷ xs) = ap (λ ys. g (f x) ∷ ys) (map-map f g xs)

-- ---- filtered
pub filter-all : {A : Type 0} (p q : A → Bool) (xs : List A) → AllByRecursion (λ x. p x ≡ q x) xs → filter p xs ≡ filter q xs
filter-all p q [] a = grind (arith, common_steps, filter-none)
filter-all p q (x ∷ xs) a = grind (arith, common_steps, filter-all p q xs a.1, filter-yes, filter-no)

pub filter-own : {A : Type 0} (p : A → Bool) (xs : List A) → AllByRecursion (λ x. p x ≡ true) xs → filter p xs ≡ xs
filter-own p [] a = filter-none p
filter-own p (x ∷ xs) a = filter-yes p x xs a.0 ∙ ap (λ ys. x ∷ ys) (filter-own p xs a.1)

pub filter-nothing : {A : Type 0} (p : A → Bool) (xs : List A) → AllByRecursion (λ x. p x ≡ false) xs → filter p xs ≡ []
filter-nothing p [] a = filter-none p
filter-nothing p (x ∷ xs) a = filter-no p x xs a.0 ∙ filter-nothing p xs a.1

-- ---- joined
pub filter-concat : {A B C : Type 0} (p : C → Bool) (g : B → C) (h : A → List B) (xs : List A)
    → filter p (map g (flat_map h xs)) ≡ flat_map (λ x. filter p (map g (h x))) xs
filter-concat p g h [] = grind (arith, common_steps, filter-none)
filter-concat p g h (x ∷ xs) = grind (arith, common_steps, filter-concat p g h xs, map-append, filter-append)

pub concat-each : {A B : Type 0} (f g : A → List B) → ((x : A) → f x ≡ g x) → (xs : List A) → flat_map f xs ≡ flat_map g xs
concat-each f g e [] = refl
concat-each f g e (x ∷ xs) = ap₂ (λ a b. a ++ b) (e x) (concat-each f g e xs)

module _ {B : Type 0} (f : ℕ → List B) where
  pub concat-empty : (i n : ℕ) → ((k : ℕ) → i ≤ k → k < i + n → f k ≡ []) → flat_map f (range i n) ≡ []
  concat-empty i zero e = grind (arith, common_steps)
  concat-empty i (suc n) e = grind (arith, common_steps, concat-empty (suc i) n (λ k a b. e k (omega arith) (omega arith)))

  -- numbers below a and from b on give nothing
  pub concat-within : (a b n : ℕ) → a ≤ b → b ≤ n → ((k : ℕ) → k < a → f k ≡ []) → ((k : ℕ) → b ≤ k → k < n → f k ≡ [])
      → flat_map f (range 0 n) ≡ flat_map f (range a (b - a))
  concat-within a b n l m low high =
      let e : n ≡ a + (b - a) + (n - b) = omega arith in
      let g : ℕ → ℕ → List B = λ i k. flat_map f (range i k) in
      ap (g 0) e ∙ concat-split f 0 (a + (b - a)) (n - b)
      ∙ ap₂ (λ x y. x ++ y) (concat-split f 0 a (b - a))
      (concat-empty (0 + (a + (b - a))) (n - b) (λ k x y. high k (omega arith) (omega arith)))
      ∙ append-nil (g 0 a ++ g (0 + a) (b - a))
      ∙ ap (λ x. x ++ g (0 + a) (b - a)) (concat-empty 0 a (λ k x y. low k (omega arith)))
      ∙ ap (λ (i : ℕ). g i (b - a)) (omega arith)
