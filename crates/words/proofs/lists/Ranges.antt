-- Laws of ranges of numbers, what a map puts at each place, and filters.
use Rattle.std.proofs.Common.{◌≡◌, refl, sym, ◌∙◌, ap, ap₂, Bool, true, false, List, [], ◌∷◌, ◌++◌, map, ℕ, zero, suc, ◌+◌, ◌<◌, add-zero, slice_index_or, filter}
use Rattle.std.proofs.Common.{zero-add, arith, length}
use Rattle.std.proofs.Math.ListN.{length-map}
use Rattle.std.proofs.lemmas.Grind.{common_steps}
use Rattle.words.specs.lists.Numbers.{range, count}
use Rattle.words.specs.lists.Sequences.{map_from}
use Rattle.words.proofs.lists.Counts.{count-suc}

pub length-range : (a n : ℕ) → length (range a n) ≡ n
length-range a zero = refl
length-range a (suc n) = ap suc (length-range (suc a) n)

pub length-map-range : {B : Type 0} (f : ℕ → B) (a n : ℕ) → length (map f (range a n)) ≡ n
length-map-range f a n = length-map (range a n) f ∙ length-range a n

pub get_or-map-range : {B : Type 0} (f : ℕ → B) (d : B) (a n k : ℕ) → k < n → slice_index_or (map f (range a n)) k d ≡ f (a + k)
get_or-map-range f d a zero k h = absurd (omega arith)
get_or-map-range f d a (suc n) zero h = ap f (omega arith)
get_or-map-range f d a (suc n) (suc k) h = get_or-map-range f d (suc a) n k (omega arith) ∙ ap f (omega arith)

pub get_or-range : (a n i d : ℕ) → i < n → slice_index_or (range a n) i d ≡ a + i
get_or-range a zero i d h = absurd (omega arith)
get_or-range a (suc n) zero d h = omega arith
get_or-range a (suc n) (suc i) d h = get_or-range (suc a) n i d (omega arith) ∙ omega arith

pub get_d-map : {A B : Type 0} (f : A → B) (xs : List A) (i : ℕ) (d : A) (e : B) → i < length xs → slice_index_or (map f xs) i e ≡ f (slice_index_or xs i d)
get_d-map f [] i d e h = absurd (omega arith)
get_d-map f (x ∷ xs) zero d e h = refl
get_d-map f (x ∷ xs) (suc i) d e h = get_d-map f xs i d e (omega arith)

-- a list is what its places hold
pub map-places : {A : Type 0} (f : ℕ → A) (d : A) (xs : List A) (a : ℕ) → ((i : ℕ) → i < length xs → f (a + i) ≡ slice_index_or xs i d)
    → map f (range a (length xs)) ≡ xs
map-places f d [] a h = refl
map-places f d (x ∷ xs) a h =
    ap₂ (λ y ys. y ∷ ys) (ap f (omega arith) ∙ h 0 (omega arith))
    (map-places f d xs (suc a) (λ i l. ap f (omega arith) ∙ h (suc i) (omega arith)))

pub map-count : {A : Type 0} (f : ℕ → A) (d : A) (xs : List A) (a n : ℕ) → n ≡ length xs
    → ((i : ℕ) → i < length xs → f (a + i) ≡ slice_index_or xs i d)
    → map f (range a n) ≡ xs
map-count f d xs a n e h = ap (λ (m : ℕ). map f (range a m)) e ∙ map-places f d xs a h

-- ---- filter
pub filter-yes : {A : Type 0} (p : A → Bool) (x : A) (xs : List A) → p x ≡ true → filter p (x ∷ xs) ≡ x ∷ filter p xs
filter-yes p x xs e = rw e

pub filter-no : {A : Type 0} (p : A → Bool) (x : A) (xs : List A) → p x ≡ false → filter p (x ∷ xs) ≡ filter p xs
filter-no p x xs e = rw e

pub length-filter : (p : ℕ → Bool) (i n : ℕ) → length (filter p (range i n)) ≡ count p i n
length-filter p i zero = unfold count in refl
length-filter p i (suc n) = go (p i) refl (length-filter p (suc i) n)
  where
    go : (b : Bool) → p i ≡ b → length (filter p (range (suc i) n)) ≡ count p (suc i) n
        → length (filter p (range i (suc n))) ≡ count p i (suc n)
    go true e h = ap (λ (l : List ℕ). length l) (filter-yes p i (range (suc i) n) e) ∙ rw (count-suc, e) (omega arith)
    go false e h = ap (λ (l : List ℕ). length l) (filter-no p i (range (suc i) n) e) ∙ rw (count-suc, e) (omega arith)

-- the place of a number that passes is the count below it
pub get_or-filter : {B : Type 0} (f : ℕ → B) (d : B) (p : ℕ → Bool) (i n k : ℕ) → k < n → p (i + k) ≡ true
    → slice_index_or (map f (filter p (range i n))) (count p i k) d ≡ f (i + k)
get_or-filter f d p i zero k h e = absurd (omega arith)
get_or-filter f d p i (suc n) zero h e =
    let q : p i ≡ true = ap p (omega arith) ∙ e in
    ap (λ (l : List ℕ). slice_index_or (map f l) (count p i 0) d) (filter-yes p i (range (suc i) n) q) ∙ (unfold count in ap f (omega arith))
get_or-filter f d p i (suc n) (suc k) h e =
    go (p i) refl (get_or-filter f d p (suc i) n k (omega arith) (ap p (omega arith) ∙ e))
  where
    go : (b : Bool) → p i ≡ b → slice_index_or (map f (filter p (range (suc i) n))) (count p (suc i) k) d ≡ f (suc i + k)
        → slice_index_or (map f (filter p (range i (suc n)))) (count p i (suc k)) d ≡ f (i + suc k)
    go true q ih = grind (arith, common_steps, count-suc, filter-yes)
    go false q ih = grind (arith, common_steps, count-suc, filter-no)

-- ---- one more at the far end
pub range-snoc : (i n : ℕ) → range i (suc n) ≡ range i n ++ ((i + n) ∷ [])
range-snoc i zero = ap (λ (k : ℕ). k ∷ []) (omega arith)
range-snoc i (suc n) = ap (λ (ks : List ℕ). i ∷ ks) (range-snoc (suc i) n ∙ ap (λ (k : ℕ). range (suc i) n ++ (k ∷ [])) (omega arith))

-- a range and the one behind it
pub range-append : (a m n : ℕ) → range a (m + n) ≡ range a m ++ range (a + m) n
range-append a zero n = ap₂ (λ (i k : ℕ). range i k) (sym (add-zero a)) (zero-add n)
range-append a (suc m) n =
    ap (range a) (let e : suc m + n ≡ suc (m + n) = omega arith in e)
    ∙ ap (λ (xs : List ℕ). a ∷ xs) (range-append (suc a) m n ∙ ap (λ (i : ℕ). range (suc a) m ++ range i n) (omega arith))

pub map-append : {A B : Type 0} (f : A → B) (xs ys : List A) → map f (xs ++ ys) ≡ map f xs ++ map f ys
map-append f [] ys = refl
map-append f (x ∷ xs) ys = ap (λ zs. f x ∷ zs) (map-append f xs ys)

pub map-range-snoc : {B : Type 0} (f : ℕ → B) (i n : ℕ) → map f (range i (suc n)) ≡ map f (range i n) ++ (f (i + n) ∷ [])
map-range-snoc f i n = ap (map f) (range-snoc i n) ∙ map-append f (range i n) ((i + n) ∷ [])

pub map_from-cons : {A B : Type 0} (f : ℕ → A → B) (i : ℕ) (x : A) (xs : List A) → map_from f i (x ∷ xs) ≡ f i x ∷ map_from f (suc i) xs
unfolding map_from
map_from-cons f i x xs = refl

-- ---- numbered elements
pub length-map_from : {A B : Type 0} (f : ℕ → A → B) (i : ℕ) (xs : List A) → length (map_from f i xs) ≡ length xs
unfolding map_from
length-map_from f i [] = refl
length-map_from f i (x ∷ xs) = ap suc (length-map_from f (suc i) xs)

pub get_or-map_from : {A B : Type 0} (f : ℕ → A → B) (i : ℕ) (xs : List A) (d : A) (e : B) (k : ℕ) → k < length xs
    → slice_index_or (map_from f i xs) k e ≡ f (i + k) (slice_index_or xs k d)
unfolding map_from
get_or-map_from f i [] d e k h = grind (arith, common_steps)
get_or-map_from f i (x ∷ xs) d e zero h = grind (arith, common_steps)
get_or-map_from f i (x ∷ xs) d e (suc k) h = grind (arith, common_steps, get_or-map_from f (suc i) xs d e k (omega arith))
