-- Functions and tests over n numbers from i on.
use Rattle.std.specs.Prelude.{ℕ, zero, suc, ◌+◌, max, Bool, true, false, ◌||◌, List, [], ◌∷◌, map, if◌then◌else◌}

abbrev pub range : ℕ → ℕ → List ℕ
range i zero = []
range i (suc n) = i ∷ range (suc i) n

-- f of 0 to n - 1
unfoldable pub tabulate : (ℕ → ℕ) → ℕ → List ℕ
tabulate f n = map f (range 0 n)

-- the lowest that passes the test, or i + n where none does
unfoldable pub lowest : (ℕ → Bool) → ℕ → ℕ → ℕ
lowest p i zero = i
lowest p i (suc n) = elim (p i) [ true ↦ i | false ↦ lowest p (suc i) n ]

unfoldable pub any : (ℕ → Bool) → ℕ → ℕ → Bool
any p i zero = false
any p i (suc n) = p i || any p (suc i) n

unfoldable pub count : (ℕ → Bool) → ℕ → ℕ → ℕ
count p i zero = 0
count p i (suc n) = (if p i then 1 else 0) + count p (suc i) n

unfoldable pub sum : (ℕ → ℕ) → ℕ → ℕ → ℕ
sum f i zero = 0
sum f i (suc n) = f i + sum f (suc i) n

unfoldable pub highest : (ℕ → ℕ) → ℕ → ℕ → ℕ
highest f i zero = 0
highest f i (suc n) = max (f i) (highest f (suc i) n)
