-- Laws of joined lists, and of what holds of every element.
use Rattle.std.proofs.Common.{◌≡◌, refl, sym, ◌∙◌, ap, ap₂, subst, Bool, true, List, [], ◌∷◌, ◌++◌, map, append_assoc, ℕ, zero, slice_index_or, flat_map, filter}
use Rattle.std.proofs.Common.{suc, ◌+◌, ◌*◌, ◌≤◌, ◌<◌, mul-suc, arith, length, length-append}
use Rattle.std.proofs.lemmas.Grind.{common_steps}
use Rattle.words.specs.lists.Numbers.{range}
use Rattle.std.specs.List.{AllByRecursion}
use Rattle.words.proofs.lists.Ranges.{length-range, get_or-range, range-snoc, range-append}

pub all-at : {A : Type 0} (P : A → Type 0) (d : A) (xs : List A) → AllByRecursion P xs → (i : ℕ) → i < length xs → P (slice_index_or xs i d)
all-at P d [] a i h = absurd (omega arith)
all-at P d (x ∷ xs) a zero h = a.0
all-at P d (x ∷ xs) a (suc i) h = all-at P d xs a.1 i (omega arith)

pub all-every : {A : Type 0} (P : A → Type 0) → ((x : A) → P x) → (xs : List A) → AllByRecursion P xs
all-every P f [] = tt
all-every P f (x ∷ xs) = (f x, all-every P f xs)

pub all-append : {A : Type 0} (P : A → Type 0) (xs ys : List A) → AllByRecursion P xs → AllByRecursion P ys → AllByRecursion P (xs ++ ys)
all-append P [] ys a b = b
all-append P (x ∷ xs) ys a b = (a.0, all-append P xs ys a.1 b)

pub all-map : {A B : Type 0} (P : B → Type 0) (f : A → B) (xs : List A) → AllByRecursion (λ x. P (f x)) xs → AllByRecursion P (map f xs)
all-map P f [] a = tt
all-map P f (x ∷ xs) a = (a.0, all-map P f xs a.1)

pub all-of : {A : Type 0} (P Q : A → Type 0) → ((x : A) → P x → Q x) → (xs : List A) → AllByRecursion P xs → AllByRecursion Q xs
all-of P Q f [] a = tt
all-of P Q f (x ∷ xs) a = (f x a.0, all-of P Q f xs a.1)

pub all-concat : {A B : Type 0} (P : B → Type 0) (f : A → List B) (xs : List A) → AllByRecursion (λ x. AllByRecursion P (f x)) xs → AllByRecursion P (flat_map f xs)
all-concat P f [] a = tt
all-concat P f (x ∷ xs) a = all-append P (f x) (flat_map f xs) a.0 (all-concat P f xs a.1)

pub all-range : (P : ℕ → Type 0) (a n : ℕ) → ((i : ℕ) → i < n → P (a + i)) → AllByRecursion P (range a n)
all-range P a zero h = tt
all-range P a (suc n) h = (
  subst P (omega arith) (h 0 (omega arith)),
  all-range P (suc a) n (λ i l. subst P (omega arith) (h (suc i) (omega arith))),
)

pub concat-cons : {A B : Type 0} (f : A → List B) (x : A) (xs : List A) → flat_map f (x ∷ xs) ≡ f x ++ flat_map f xs
concat-cons f x xs = refl

-- joined lists
pub concat-map : {A B C : Type 0} (f : B → List C) (g : A → B) (xs : List A) → flat_map f (map g xs) ≡ flat_map (λ x. f (g x)) xs
concat-map f g [] = refl
concat-map f g (x ∷ xs) = ap (λ ys. f (g x) ++ ys) (concat-map f g xs)

pub concat-append : {A B : Type 0} (f : A → List B) (xs ys : List A) → flat_map f (xs ++ ys) ≡ flat_map f xs ++ flat_map f ys
concat-append f [] ys = refl
concat-append f (x ∷ xs) ys = ap (λ zs. f x ++ zs) (concat-append f xs ys) ∙ sym (append_assoc (f x) (flat_map f xs) (flat_map f ys))

pub concat-places : {A B : Type 0} (g : ℕ → List B) (h : A → List B) (d : A) (xs : List A) (a : ℕ)
    → ((i : ℕ) → i < length xs → g (a + i) ≡ h (slice_index_or xs i d)) → flat_map g (range a (length xs)) ≡ flat_map h xs
concat-places g h d [] a e = refl
concat-places g h d (x ∷ xs) a e =
    ap₂ (λ y ys. y ++ ys) (ap g (omega arith) ∙ e 0 (omega arith))
    (concat-places g h d xs (suc a) (λ i l. ap g (omega arith) ∙ e (suc i) (omega arith)))

-- over a range and the one behind it, and over one range where two functions agree
pub concat-split : {B : Type 0} (f : ℕ → List B) (a m n : ℕ)
    → flat_map f (range a (m + n)) ≡ flat_map f (range a m) ++ flat_map f (range (a + m) n)
concat-split f a m n = ap (flat_map f) (range-append a m n) ∙ concat-append f (range a m) (range (a + m) n)

pub concat-alike : {B : Type 0} (f g : ℕ → List B) (a n : ℕ) → ((k : ℕ) → a ≤ k → k < a + n → f k ≡ g k)
    → flat_map f (range a n) ≡ flat_map g (range a n)
concat-alike f g a zero h = grind (arith, common_steps)
concat-alike f g a (suc n) h = grind (arith, common_steps, concat-alike f g (suc a) n (λ k p q. h k (omega arith) (omega arith)))

-- lists of m elements each
module _ {A B : Type 0} (f : A → List B) (m : ℕ) where
  pub length-concat : (xs : List A) → AllByRecursion (λ x. length (f x) ≡ m) xs → length (flat_map f xs) ≡ m * length xs
  length-concat [] a = grind (arith, common_steps)
  length-concat (x ∷ xs) a = grind (arith, common_steps, length-concat xs a.1, mul-suc, length-append)

  pub get_or-concat : (d : A) (e : B) (xs : List A) → AllByRecursion (λ x. length (f x) ≡ m) xs → (i k : ℕ) → i < length xs → k < m
      → slice_index_or (flat_map f xs) (m * i + k) e ≡ slice_index_or (f (slice_index_or xs i d)) k e
  get_or-concat d e [] a i k h l = grind (arith, common_steps)
  get_or-concat d e (x ∷ xs) a zero k h l = grind (arith, common_steps)
  get_or-concat d e (x ∷ xs) a (suc i) k h l = grind (arith, common_steps, get_or-concat d e xs a.1 i k (omega arith) l)

pub length-concat-range : {B : Type 0} (f : ℕ → List B) (m i n : ℕ) → ((k : ℕ) → length (f k) ≡ m)
    → length (flat_map f (range i n)) ≡ m * n
length-concat-range f m i zero h = grind (arith, common_steps)
length-concat-range f m i (suc n) h = grind (arith, common_steps, length-concat-range f m (suc i) n h, mul-suc, length-append)

-- ---- one more at the far end
pub concat-range-snoc : {B : Type 0} (f : ℕ → List B) (i n : ℕ) → flat_map f (range i (suc n)) ≡ flat_map f (range i n) ++ f (i + n)
concat-range-snoc f i n = grind (arith, common_steps, range-snoc, concat-cons, concat-append)

-- lists of m elements each, one a number
pub concat-range-at : {B : Type 0} (f : ℕ → List B) (m i n : ℕ) (e : B) → ((k : ℕ) → length (f k) ≡ m) → (j k : ℕ) → j < n → k < m
    → slice_index_or (flat_map f (range i n)) (m * j + k) e ≡ slice_index_or (f (i + j)) k e
concat-range-at f m i n e h j k a b =
    get_or-concat f m 0 e (range i n) (all-every (λ x. length (f x) ≡ m) h (range i n)) j k (omega (arith, length-range i n)) b
    ∙ ap (λ (x : ℕ). slice_index_or (f x) k e) (get_or-range i n j 0 a)

-- every place
pub all-places : {A : Type 0} (P : A → Type 0) (d : A) (xs : List A) → ((i : ℕ) → i < length xs → P (slice_index_or xs i d)) → AllByRecursion P xs
all-places P d [] h = tt
all-places P d (x ∷ xs) h = (h 0 (omega arith), all-places P d xs (λ i l. h (suc i) (omega arith)))

pub all-filter : {A : Type 0} (P : A → Type 0) (p : A → Bool) (xs : List A) → AllByRecursion P xs → AllByRecursion (λ x. P x × (p x ≡ true)) (filter p xs)
all-filter P p [] a = grind (arith, common_steps)
all-filter P p (x ∷ xs) a = grind (arith, common_steps, all-filter P p xs a.1)
