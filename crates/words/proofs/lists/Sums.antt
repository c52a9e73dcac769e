-- Laws of sums: of numbers within a bound, over ranges that follow one another, moved, or alike; and a loop that adds.
use Rattle.std.proofs.Common.{if◌then◌else◌, ℕ, zero, suc, ◌+◌, ◌*◌, ◌-◌, ◌≤◌, ◌<◌, Bool, ◌≡◌, refl, sym, ◌∙◌}
use Rattle.std.proofs.Common.{eq-or-lt_of_le, mul-suc, suc-mul, arith}
use Rattle.std.proofs.lemmas.Grind.{common_steps}
use Rattle.words.specs.lists.Numbers.{count, sum}
use Rattle.words.proofs.lists.Counts.{count-suc, count-none}
use Rattle.words.proofs.lists.Searches.{sum-snoc}

pub sum-suc : (f : ℕ → ℕ) (i n : ℕ) → sum f i (suc n) ≡ f i + sum f (suc i) n
unfolding sum
sum-suc f i n = refl

pub sum-none : (f : ℕ → ℕ) (i : ℕ) → sum f i 0 ≡ 0
unfolding sum
sum-none f i = refl

pub sum-zero : (f : ℕ → ℕ) (i n : ℕ) → ((k : ℕ) → i ≤ k → k < i + n → f k ≡ 0) → sum f i n ≡ 0
sum-zero f i zero h = grind (arith, common_steps, sum-none)
sum-zero f i (suc n) h = grind (arith, common_steps, sum-zero f (suc i) n (λ k a b. h k (omega arith) (omega arith)), sum-suc)

pub sum-most : (f : ℕ → ℕ) (b i n : ℕ) → ((k : ℕ) → i ≤ k → k < i + n → f k ≤ b) → sum f i n ≤ n * b
sum-most f b i zero h = grind (arith, common_steps, sum-none)
sum-most f b i (suc n) h = grind (arith, common_steps, sum-most f b (suc i) n (λ k l m. h k (omega arith) (omega arith)), suc-mul, sum-suc)

pub sum-ones : (f : ℕ → ℕ) (i n : ℕ) → ((k : ℕ) → i ≤ k → k < i + n → f k ≡ 1) → sum f i n ≡ n
sum-ones f i zero h = grind (arith, common_steps, sum-none)
sum-ones f i (suc n) h = grind (arith, common_steps, sum-ones f (suc i) n (λ k a b. h k (omega arith) (omega arith)), sum-suc)

pub sum-full : (f : ℕ → ℕ) (i n : ℕ) → ((k : ℕ) → i ≤ k → k < i + n → f k ≤ 1) → sum f i n ≡ n → (k : ℕ) → i ≤ k → k < i + n → f k ≡ 1
sum-full f i zero h e k a b = grind (arith, common_steps)
sum-full f i (suc n) h e k a b =
    let x : f i ≤ 1 = h i (omega arith) (omega arith) in
    let y : sum f (suc i) n ≤ n * 1 = sum-most f 1 (suc i) n (λ k a b. h k (omega arith) (omega arith)) in
    let z : f i + sum f (suc i) n ≡ suc n = sym (sum-suc f i n) ∙ e in
    grind (arith, common_steps, λ (q : i < k). sum-full f (suc i) n (λ k a b. h k (omega arith) (omega arith)) (omega arith) k q (omega arith), eq-or-lt_of_le a)

pub sum-add : (p : ℕ → Bool) (f g : ℕ → ℕ) → ((k : ℕ) → f k ≡ (if p k then 1 else 0) + g k) → (i n : ℕ)
    → sum f i n ≡ count p i n + sum g i n
sum-add p f g h i zero = omega (arith, sum-none f i, sum-none g i, count-none p i 0 (λ k a b. absurd (omega arith)))
sum-add p f g h i (suc n) = omega (arith, sum-suc f i n, sum-suc g i n, count-suc p i n, h i, sum-add p f g h (suc i) n)

pub sum-split : (f : ℕ → ℕ) (i m n : ℕ) → sum f i (m + n) ≡ sum f i m + sum f (i + m) n
sum-split f i zero n = grind (arith, common_steps, sum-none f i)
sum-split f i (suc m) n = grind (arith, common_steps, sum-split f (suc i) m n, sum-suc f i (m + n), sum-suc f i m)

-- the same numbers, and at other places
pub sum-same : (f g : ℕ → ℕ) (i n : ℕ) → ((k : ℕ) → i ≤ k → k < i + n → f k ≡ g k) → sum f i n ≡ sum g i n
sum-same f g i zero h = grind (arith, common_steps, sum-none)
sum-same f g i (suc n) h = grind (arith, common_steps, sum-same f g (suc i) n (λ k a b. h k (omega arith) (omega arith)), sum-suc)

pub sum-move : (f g : ℕ → ℕ) (a i n : ℕ) → ((k : ℕ) → i ≤ k → k < i + n → f (a + k) ≡ g k) → sum f (a + i) n ≡ sum g i n
sum-move f g a i zero h = grind (arith, common_steps, sum-none)
sum-move f g a i (suc n) h = grind (arith, common_steps, sum-move f g a (suc i) n (λ k l m. h k (omega arith) (omega arith)), sum-suc)

-- ---- a loop from first up to end that adds a number, at most `most`, in each turn
pub record Adding (g : ℕ → ℕ) (most first end total f : ℕ) : Type 0 where
  pub low : first ≤ f
  pub high : f ≤ end
  pub is : total ≡ sum g first (f - first)
  pub small : total ≤ most * (f - first)

module _ (g : ℕ → ℕ) (most first end : ℕ) where
  pub adding-start : first ≤ end → Adding g most first end 0 first
  adding-start h = grind (arith, common_steps, sum-none g first)

  pub adding-on : (total f x : ℕ) → Adding g most first end total f → f < end → (x ≡ g f) × (x ≤ most)
      → Adding g most first end (total + x) (f + 1)
  adding-on total f x t h w = grind (arith, common_steps, sum-snoc g first (f - first), mul-suc most (f - first))
