-- Laws of how many numbers pass a test.
use Rattle.std.proofs.Common.{if◌then◌else◌, cond, ◌≡◌, refl, sym, ◌∙◌, ap, Bool, true, false, not, ℕ, zero, suc, ◌+◌, ◌-◌, ◌≤◌, ◌==◌, ⊎_elim}
use Rattle.std.proofs.Common.{◌<◌, eq-or-lt_of_le, zero-add, add-zero, add-one, arith, eq-eqb, ne_eqb}
use Rattle.std.proofs.Math.Decide.{dec_lt}
use Rattle.std.proofs.lemmas.Grind.{common_steps}
use Rattle.words.specs.lists.Numbers.{lowest, count}
use Rattle.std.proofs.lemmas.Bool.{cond-true, cond-false}
use Rattle.words.proofs.lists.Tests.{no_both}
use Rattle.words.proofs.lists.Searches.{lowest-past}

pub count-suc : (p : ℕ → Bool) (i n : ℕ) → count p i (suc n) ≡ (if p i then 1 else 0) + count p (suc i) n
unfolding count
count-suc p i n = refl

pub count-le : (p : ℕ → Bool) (i n : ℕ) → count p i n ≤ n
unfolding count
count-le p i zero = grind (arith, common_steps)
count-le p i (suc n) = grind (arith, common_steps, count-le p (suc i) n)

-- one more at the far end
pub count-snoc : (p : ℕ → Bool) (i n : ℕ) → count p i (suc n) ≡ count p i n + (if p (i + n) then 1 else 0)
unfolding count
count-snoc p i zero = grind (arith, common_steps)
count-snoc p i (suc n) = grind (arith, common_steps, count-snoc p (suc i) n)

pub count-within : (p q : ℕ → Bool) (i n : ℕ) → ((k : ℕ) → i ≤ k → k < i + n → p k ≡ true → q k ≡ true) → count p i n ≤ count q i n
unfolding count
count-within p q i zero h = grind (arith, common_steps)
count-within p q i (suc n) h = grind (arith, common_steps, count-within p q (suc i) n (λ k a b. h k (omega arith) (omega arith)), no_both)

-- a test within another that misses one of its numbers
pub count-less : (p q : ℕ → Bool) (i n : ℕ) → ((k : ℕ) → i ≤ k → k < i + n → p k ≡ true → q k ≡ true)
    → (j : ℕ) → i ≤ j → j < i + n → p j ≡ false → q j ≡ true → count p i n < count q i n
unfolding count
count-less p q i zero h j a b x y = absurd (omega arith)
count-less p q i (suc n) h j a b x y =
    ⊎_elim (λ (e : i ≡ j).
    let u : cond {A = ℕ} (p i) 1 0 ≡ 0 = ap (λ (k : ℕ). cond {A = ℕ} (p k) 1 0) e ∙ cond-false (p j) 1 0 x in
    let v : cond {A = ℕ} (q i) 1 0 ≡ 1 = ap (λ (k : ℕ). cond {A = ℕ} (q k) 1 0) e ∙ cond-true (q j) 1 0 y in
    omega (arith, u, v, count-within p q (suc i) n (λ k a b. h k (omega arith) (omega arith))))
    (λ (l : i < j). go (p i) (q i) refl refl (count-less p q (suc i) n (λ k a b. h k (omega arith) (omega arith)) j l (omega arith) x y))
    (eq-or-lt_of_le a)
  where
    go : (a b : Bool) → p i ≡ a → q i ≡ b → count p (suc i) n < count q (suc i) n
        → (if p i then 1 else 0) + count p (suc i) n < (if q i then 1 else 0) + count q (suc i) n
    go true true e f l = rw (e, f) (omega arith)
    go true false e f l = no_both (q i) (h i (omega arith) (omega arith) e) f
    go false true e f l = rw (e, f) (omega arith)
    go false false e f l = rw (e, f) (omega arith)

-- a test within another of no more numbers is that test
pub count-same : (p q : ℕ → Bool) (i n : ℕ) → ((k : ℕ) → i ≤ k → k < i + n → p k ≡ true → q k ≡ true) → count q i n ≤ count p i n
    → (k : ℕ) → i ≤ k → k < i + n → q k ≡ p k
count-same p q i n h l k a b = go (p k) (q k) refl refl
  where
    go : (x y : Bool) → p k ≡ x → q k ≡ y → q k ≡ p k
    go true true e f = f ∙ sym e
    go true false e f = no_both (q k) (h k a b e) f
    go false true e f = absurd (omega (arith, count-less p q i n h k a b e f))
    go false false e f = f ∙ sym e

abbrev pub all : ℕ → Bool
all k = true

pub count-all : (i n : ℕ) → count all i n ≡ n
unfolding count
count-all i zero = refl
count-all i (suc n) = omega (arith, count-all (suc i) n)

-- one number that fails
pub count-miss : (p : ℕ → Bool) (n j : ℕ) → j < n → p j ≡ false → count p 0 n < n
count-miss p n j l e = omega (arith, count-less p all 0 n (λ k a b t. refl) j (omega arith) (omega arith) e refl, count-all 0 n)

-- two numbers that fail
abbrev pub but : ℕ → ℕ → Bool
but j k = not (j == k)

pub count-miss2 : (p : ℕ → Bool) (n i j : ℕ) → i < n → j < n → (i ≡ j → ⊥) → p i ≡ false → p j ≡ false → count p 0 n + 2 ≤ n
count-miss2 p n i j a b ne e f =
    let l : count p 0 n < count (but j) 0 n =
    count-less p (but j) 0 n (λ k x y t. ap not (ne_eqb j k (λ q. no_both (p k) t (ap p (sym q) ∙ f)))) i (omega arith) (omega arith) e
    (ap not (ne_eqb j i (λ q. ne (sym q)))) in
    let m : count (but j) 0 n < n = count-miss (but j) n j b (ap not (eq-eqb j j refl)) in
    omega arith

pub count-some : (p : ℕ → Bool) (n j : ℕ) → j < n → p j ≡ true → 1 ≤ count p 0 n
count-some p n j l e = go (count p 0 n) refl
  where
    none : (i n : ℕ) → count (λ k. false) i n ≡ 0
    none i zero = unfold count in refl
    none i (suc n) = count-suc (λ k. false) i n ∙ omega (arith, none (suc i) n)

    go : (m : ℕ) → count p 0 n ≡ m → 1 ≤ count p 0 n
    go m q = omega (arith, count-less (λ k. false) p 0 n (λ k a b t. no_both false t refl) j (omega arith) (omega arith) refl e)

-- where one passes the lowest is found
pub count-none : (p : ℕ → Bool) (i n : ℕ) → ((k : ℕ) → i ≤ k → k < i + n → p k ≡ false) → count p i n ≡ 0
unfolding count
count-none p i zero h = refl
count-none p i (suc n) h = rw (h i (omega arith) (omega arith))
    (omega (arith, count-none p (suc i) n (λ k a b. h k (omega arith) (omega arith))))

pub count-lowest : (p : ℕ → Bool) (n : ℕ) → 1 ≤ count p 0 n → lowest p 0 n < n
count-lowest p n l = go (dec_lt (lowest p 0 n) n)
  where
    go : Dec (lowest p 0 n < n) → lowest p 0 n < n
    go (yes h) = h
    go (no h) = absurd (omega (arith, count-none p 0 n (λ k a b. lowest-past p 0 n (omega arith) k a b)))

-- the counts below two numbers that pass are different
pub count-mono : (p : ℕ → Bool) (u d : ℕ) → count p 0 u ≤ count p 0 (u + d)
count-mono p u zero = omega (arith, ap (λ (k : ℕ). count p 0 k) (native.Mathlib.Nat.add-zero u))
count-mono p u (suc d) = omega
    (arith, count-mono p u d, count-snoc p 0 (u + d), ap (λ (k : ℕ). count p 0 k) (native.Mathlib.Nat.add-suc u d))

pub count-below : (p : ℕ → Bool) (u v : ℕ) → u < v → p u ≡ true → count p 0 u < count p 0 v
count-below p u v l e =
    let m : count p 0 (suc u) ≤ count p 0 (suc u + (v - suc u)) = count-mono p (suc u) (v - suc u) in
    let s : count p 0 (suc u + (v - suc u)) ≡ count p 0 v = ap (λ (k : ℕ). count p 0 k) (omega arith) in
    let t : cond {A = ℕ} (p (0 + u)) 1 0 ≡ 1 = ap (λ (k : ℕ). cond {A = ℕ} (p k) 1 0) (native.Mathlib.Nat.zero-add u)
    ∙ cond-true (p u) 1 0 e in
    omega (arith, m, s, t, count-snoc p 0 u)

pub count-apart : (p : ℕ → Bool) (u v : ℕ) → p u ≡ true → p v ≡ true → count p 0 u ≡ count p 0 v → u ≡ v
count-apart p u v a b e = grind (arith, common_steps, dec_lt, count-below)

-- one more at a loop's index that passes, or not
pub count-yes : (p : ℕ → Bool) (n : ℕ) → p n ≡ true → count p 0 (n + 1) ≡ count p 0 n + 1
count-yes p n e = ap (λ (k : ℕ). count p 0 k) (add-one n) ∙ count-snoc p 0 n
    ∙ ap (λ (k : ℕ). count p 0 n + k) (ap (λ (k : ℕ). cond {A = ℕ} (p k) 1 0) (zero-add n) ∙ cond-true (p n) 1 0 e)

pub count-pass : (p : ℕ → Bool) (n : ℕ) → p n ≡ false → count p 0 (n + 1) ≡ count p 0 n
count-pass p n e = ap (λ (k : ℕ). count p 0 k) (add-one n) ∙ count-snoc p 0 n
    ∙ ap (λ (k : ℕ). count p 0 n + k) (ap (λ (k : ℕ). cond {A = ℕ} (p k) 1 0) (zero-add n) ∙ cond-false (p n) 1 0 e) ∙ add-zero (count p 0 n)

-- where just one passes, two that pass are the same
pub count-one : (p : ℕ → Bool) (n u v : ℕ) → count p 0 n ≡ 1 → u < n → v < n → p u ≡ true → p v ≡ true → u ≡ v
count-one p n u v e lu lv a b = count-apart p u v a b (omega (arith, count-below p u n lu a, count-below p v n lv b))

-- two tests that agree, and two that differ at one number alone
pub count-alike : (p q : ℕ → Bool) (i n : ℕ) → ((k : ℕ) → i ≤ k → k < i + n → q k ≡ p k) → count q i n ≡ count p i n
count-alike p q i n h = grind (arith, common_steps, count-within)

pub count-add : (p q : ℕ → Bool) (i n u : ℕ) → i ≤ u → u < i + n → p u ≡ false → q u ≡ true → ((k : ℕ) → (k ≡ u → ⊥) → q k ≡ p k)
    → count q i n ≡ count p i n + 1
count-add p q i zero u a b x y h = grind (arith, common_steps)
count-add p q i (suc n) u a b x y h = grind (arith, common_steps, count-add p q (suc i) n u, eq-or-lt_of_le a, cond-true, cond-false, count-suc, count-alike)
