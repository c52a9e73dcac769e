-- Laws of the lowest number that passes a test, of whether any does, and of the highest value; of an element that passes.
use Rattle.std.proofs.Common.{if◌then◌else◌, ◌≡◌, refl, sym, ◌∙◌, ap, ap₂, Bool, true, false, ◌||◌, List, [], ◌∷◌, ℕ, zero, ⊎_elim}
use Rattle.std.proofs.Common.{suc, ◌+◌, ◌-◌, ◌≤◌, ◌<◌, max, eq-or-lt_of_le, zero-add, add-one, arith}
use Rattle.std.proofs.Math.Nat.{sub-zero}
use Rattle.std.proofs.lemmas.Grind.{common_steps}
use Rattle.words.specs.lists.Numbers.{lowest, any, sum, highest}
use Rattle.std.specs.List.{list_any}
use Rattle.std.proofs.lemmas.Bool.{cond-true, cond-false}
use Rattle.words.proofs.lists.Tests.{no_both, or-l, or-r, or-cases, cases}
use Rattle.std.proofs.lemmas.Bool.{cases_Bool}

-- ---- the lowest that passes
pub lowest-hit : (p : ℕ → Bool) (i n : ℕ) → lowest p i n < i + n → p (lowest p i n) ≡ true
unfolding lowest
lowest-hit p i zero l = absurd (omega arith)
lowest-hit p i (suc n) l = go (p i) refl l (lowest-hit p (suc i) n)
  where
    go : (b : Bool) → p i ≡ b → lowest p i (suc n) < i + suc n → (lowest p (suc i) n < suc i + n → p (lowest p (suc i) n) ≡ true)
        → p (lowest p i (suc n)) ≡ true
    go true e l ih = rw (lowest, e) e
    go false e l ih = rw (lowest, e) (ih (omega (arith, rw (lowest, e) at l)))

-- nothing is found, so none passes
pub lowest-past : (p : ℕ → Bool) (i n : ℕ) → i + n ≤ lowest p i n → (k : ℕ) → i ≤ k → k < i + n → p k ≡ false
unfolding lowest
lowest-past p i zero l k a b = absurd (omega arith)
lowest-past p i (suc n) l k a b = go (p i) refl l (lowest-past p (suc i) n)
  where
    go : (b : Bool) → p i ≡ b → i + suc n ≤ lowest p i (suc n)
        → (suc i + n ≤ lowest p (suc i) n → (k : ℕ) → suc i ≤ k → k < suc i + n → p k ≡ false) → p k ≡ false
    go true e l ih = absurd (omega (arith, rw (lowest, e) at l))
    go false e l ih = ⊎_elim (λ (q : i ≡ k). ap p (sym q) ∙ e)
        (λ (q : i < k). ih (omega (arith, rw (lowest, e) at l)) k q (omega arith)) (eq-or-lt_of_le a)

pub lowest-none : (p : ℕ → Bool) (i n : ℕ) → ((k : ℕ) → k < n → p (i + k) ≡ false) → lowest p i n ≡ i + n
unfolding lowest
lowest-none p i zero h = omega arith
lowest-none p i (suc n) h =
    let e : p i ≡ false = ap p (omega arith) ∙ h 0 (omega arith) in
    rw (lowest, e) (lowest-none p (suc i) n (λ k l. ap p (omega arith) ∙ h (suc k) (omega arith)) ∙ omega arith)

pub lowest-above : (p : ℕ → Bool) (i n : ℕ) → i ≤ lowest p i n
unfolding lowest
lowest-above p i zero = grind (arith, common_steps)
lowest-above p i (suc n) = grind (arith, common_steps, lowest-above p (suc i) n)

-- ---- any
pub any-false : (p : ℕ → Bool) (i n : ℕ) → any p i n ≡ false → (k : ℕ) → i ≤ k → k < i + n → p k ≡ false
unfolding any
any-false p i zero e k a b = grind (arith, common_steps)
any-false p i (suc n) e k a b = grind (arith, common_steps, any-false p (suc i) n, or-l, eq-or-lt_of_le, or-r)

pub any-true : (p : ℕ → Bool) (i n k : ℕ) → i ≤ k → k < i + n → p k ≡ true → any p i n ≡ true
any-true p i n k a b t = go (any p i n) refl
  where
    go : (x : Bool) → any p i n ≡ x → any p i n ≡ true
    go true e = e
    go false e = no_both (p k) t (any-false p i n e k a b)

pub any-none : (p : ℕ → Bool) (i n : ℕ) → ((k : ℕ) → k < n → p (i + k) ≡ false) → any p i n ≡ false
unfolding any
any-none p i zero h = refl
any-none p i (suc n) h =
    ap₂ ◌||◌ (ap p (omega arith) ∙ h 0 (omega arith)) (any-none p (suc i) n (λ k l. ap p (omega arith) ∙ h (suc k) (omega arith)))

-- a test at the far end
pub any-snoc : (p : ℕ → Bool) (i n : ℕ) → any p i (suc n) ≡ (any p i n || p (i + n))
unfolding any
any-snoc p i zero = grind (arith, common_steps)
any-snoc p i (suc n) = grind (arith, common_steps, any-snoc p (suc i) n)

-- ---- the largest value
pub highest-ge : (f : ℕ → ℕ) (i n k : ℕ) → i ≤ k → k < i + n → f k ≤ highest f i n
unfolding highest
highest-ge f i zero k a b = grind (arith, common_steps)
highest-ge f i (suc n) k a b = grind (arith, common_steps, highest-ge f (suc i) n k, eq-or-lt_of_le)

-- the highest value is one of the values, or 0
pub highest-of : (P : ℕ → Type 0) (f : ℕ → ℕ) (i n : ℕ) → P 0 → ((k : ℕ) → i ≤ k → k < i + n → P (f k)) → P (highest f i n)
unfolding highest
highest-of P f i zero z h = grind (arith, common_steps)
highest-of P f i (suc n) z h = grind (arith, common_steps, highest-of P f (suc i) n z (λ k a b. h k (omega arith) (omega arith)))

pub highest-le : (f : ℕ → ℕ) (m i n : ℕ) → ((k : ℕ) → i ≤ k → k < i + n → f k ≤ m) → highest f i n ≤ m
unfolding highest
highest-le f m i zero h = grind (arith, common_steps)
highest-le f m i (suc n) h = grind (arith, common_steps, highest-le f m (suc i) n (λ k a b. h k (omega arith) (omega arith)))

-- ---- a loop from i up to n: what is left of the search
left-more : (n i : ℕ) → i < n → n - i ≡ suc (n - (i + 1))
left-more n i h = omega arith

left-none : (n i : ℕ) → n ≤ i → n - i ≡ zero
left-none n i h = omega arith

module _ (p : ℕ → Bool) (n i : ℕ) where
  pub lowest-here : i < n → p i ≡ true → lowest p i (n - i) ≡ i
  unfolding lowest
  lowest-here h t = rw (left-more n i h, lowest, t)

  pub lowest-on : i < n → p i ≡ false → lowest p i (n - i) ≡ lowest p (i + 1) (n - (i + 1))
  unfolding lowest
  lowest-on h t = rw (left-more n i h, lowest, t, add-one)

  pub lowest-over : n ≤ i → lowest p i (n - i) ≡ i
  unfolding lowest
  lowest-over h = rw (left-none n i h)

  pub any-here : i < n → p i ≡ true → any p i (n - i) ≡ true
  unfolding any
  any-here h t = rw (left-more n i h, any, t)

  pub any-on : i < n → p i ≡ false → any p i (n - i) ≡ any p (i + 1) (n - (i + 1))
  unfolding any
  any-on h t = rw (left-more n i h, any, t, add-one)

  pub any-over : n ≤ i → any p i (n - i) ≡ false
  unfolding any
  any-over h = rw (left-none n i h)

-- the lowest where the number before the others is tried too
pub lowest-below : (p : ℕ → Bool) (n v r : ℕ) → 0 < v → v ≤ n → r ≡ lowest p v (n - v)
    → (if p (v - 1) then v - 1 else r) ≡ lowest p (v - 1) (n - (v - 1))
lowest-below p n v r list_any low e = grind (arith, common_steps, cond-false, cond-true, cases, lowest-here, lowest-on)

pub lowest-start : (p : ℕ → Bool) (n : ℕ) → lowest p 0 (n - 0) ≡ lowest p 0 n
lowest-start p n = rw (sub-zero n)

-- the loop has come to i, and what is sought is the lowest of those left
pub record Searching (p : ℕ → Bool) (n i found : ℕ) : Type 0 where
  pub inside : i ≤ n
  pub left : lowest p i (n - i) ≡ found

pub searching-first : (p : ℕ → Bool) (n : ℕ) → Searching p n 0 (lowest p 0 n)
searching-first p n = record { inside = omega arith; left = lowest-start p n }

module _ (p : ℕ → Bool) (n i found : ℕ) (s : Searching p n i found) where
  pub searching-found : i < n → p i ≡ true → i ≡ found
  searching-found h t = sym (lowest-here p n i h t) ∙ s.left

  pub searching-next : i < n → p i ≡ false → Searching p n (i + 1) found
  searching-next h t = record { inside = omega arith; left = sym (lowest-on p n i h t) ∙ s.left }

  pub searching-over : n ≤ i → i ≡ found
  searching-over h = sym (lowest-over p n i h) ∙ s.left

pub sum-shift : (f : ℕ → ℕ) (i n : ℕ) → sum f (suc i) n ≡ sum (λ k. f (suc k)) i n
unfolding sum
sum-shift f i zero = refl
sum-shift f i (suc n) = ap (λ (x : ℕ). f (suc i) + x) (sum-shift f (suc i) n)

-- ---- a loop that adds or compares one more at the far end
pub sum-snoc : (f : ℕ → ℕ) (i n : ℕ) → sum f i (suc n) ≡ sum f i n + f (i + n)
unfolding sum
sum-snoc f i zero = let e : f i ≡ f (i + 0) = ap f (omega arith) in omega arith
sum-snoc f i (suc n) = let e : f (suc i + n) ≡ f (i + suc n) = ap f (omega arith) in omega (arith, sum-snoc f (suc i) n)

-- a turn of the loop that adds
pub sum-turn : (g : ℕ → ℕ) (s k v : ℕ) → s ≡ sum g 0 k → v ≡ g k → s + v ≡ sum g 0 (k + 1)
sum-turn g s k v e q = grind (arith, common_steps, add-one k, sum-snoc g 0 k)

pub highest-snoc : (f : ℕ → ℕ) (i n : ℕ) → highest f i (suc n) ≡ max (highest f i n) (f (i + n))
unfolding highest
highest-snoc f i zero = let e : f i ≡ f (i + 0) = ap f (omega arith) in omega arith
highest-snoc f i (suc n) = let e : f (suc i + n) ≡ f (i + suc n) = ap f (omega arith) in omega (arith, highest-snoc f (suc i) n)

-- ---- a number or an element that passes
pub any-some : (p : ℕ → Bool) (i n : ℕ) → any p i n ≡ true → (k : ℕ) × (i ≤ k) × (k < i + n) × (p k ≡ true)
unfolding any
any-some p i zero e = grind (arith, common_steps, no_both)
any-some p i (suc n) e = grind (arith, common_steps, any-some p (suc i) n, or-cases)

pub some-cons : {A : Type 0} (p : A → Bool) (x : A) (xs : List A) → list_any p (x ∷ xs) ≡ (p x || list_any p xs)
some-cons p x xs = refl

-- a list on which one test fails throughout and another holds somewhere
pub some-both : {A : Type 0} (p q : A → Bool) (xs : List A) → list_any p xs ≡ false → list_any q xs ≡ true → (x : A) × (p x ≡ false) × (q x ≡ true)
some-both p q [] e f = grind (arith, common_steps, no_both)
some-both p q (x ∷ xs) e f = grind (arith, common_steps, some-both p q xs, or-l, or-r, or-cases)

-- the same at the loop's next index
pub highest-next : (f : ℕ → ℕ) (n : ℕ) → highest f 0 (n + 1) ≡ max (highest f 0 n) (f n)
highest-next f n = ap (λ (k : ℕ). highest f 0 k) (add-one n) ∙ highest-snoc f 0 n ∙ ap (λ (k : ℕ). max (highest f 0 n) (f k)) (zero-add n)

pub any-alike : (p q : ℕ → Bool) (i n : ℕ) → ((j : ℕ) → i ≤ j → j < i + n → p j ≡ q j) → any p i n ≡ any q i n
unfolding any
any-alike p q i zero h = refl
any-alike p q i (suc n) h = rw (h i (omega arith) (omega arith), any-alike p q (suc i) n (λ j a b. h j (omega arith) (omega arith)))

-- two tests that agree
pub lowest-alike : (p q : ℕ → Bool) (i n : ℕ) → ((k : ℕ) → i ≤ k → k < i + n → p k ≡ q k) → lowest p i n ≡ lowest q i n
unfolding lowest
lowest-alike p q i zero h = grind (arith, common_steps)
lowest-alike p q i (suc n) h = grind (arith, common_steps, lowest-alike p q (suc i) n (λ k a b. h k (omega arith) (omega arith)))

-- ---- where the lowest that passes lies
pub lowest-most : (p : ℕ → Bool) (i n : ℕ) → lowest p i n ≤ i + n
unfolding lowest
lowest-most p i zero = grind (arith, common_steps)
lowest-most p i (suc n) = grind (arith, common_steps, lowest-most p (suc i) n)

pub lowest-before : (p : ℕ → Bool) (i n k : ℕ) → i ≤ k → k < lowest p i n → p k ≡ false
unfolding lowest
lowest-before p i zero k a b = grind (arith, common_steps)
lowest-before p i (suc n) k a b = grind (arith, common_steps, lowest-before p (suc i) n k, cases_Bool (p i), eq-or-lt_of_le a)

-- a test that fails wherever another one fails: its search may start where the other one's ends
pub lowest-later : (p q : ℕ → Bool) → ((k : ℕ) → p k ≡ false → q k ≡ false) → (i n : ℕ)
    → lowest q (lowest p i n) (i + n - lowest p i n) ≡ lowest q i n
unfolding lowest
lowest-later p q h i zero = ap (λ (m : ℕ). lowest q i m) (let e : i + 0 - i ≡ 0 = omega arith in e)
lowest-later p q h i (suc n) = go (p i) refl (lowest-later p q h (suc i) n)
  where
    go : (t : Bool) → p i ≡ t → lowest q (lowest p (suc i) n) (suc i + n - lowest p (suc i) n) ≡ lowest q (suc i) n
        → lowest q (lowest p i (suc n)) (i + suc n - lowest p i (suc n)) ≡ lowest q i (suc n)
    go true e ih =
        let one : lowest p i (suc n) ≡ i = rw (lowest, e) in
        ap (λ (x : ℕ). lowest q x (i + suc n - x)) one ∙ ap (λ (m : ℕ). lowest q i m) (let z : i + suc n - i ≡ suc n = omega arith in z)
    go false e ih = grind (arith, common_steps)

-- the same by the end of the search
module _ (p : ℕ → Bool) (i end : ℕ) (h : i ≤ end) where
  pub lowest-inside : lowest p i (end - i) ≤ end
  lowest-inside = omega (arith, lowest-most p i (end - i))

  pub lowest-from : (q : ℕ → Bool) → ((k : ℕ) → p k ≡ false → q k ≡ false)
      → lowest q (lowest p i (end - i)) (end - lowest p i (end - i)) ≡ lowest q i (end - i)
  lowest-from q f = grind (arith, common_steps, lowest-later p q f i (end - i))
