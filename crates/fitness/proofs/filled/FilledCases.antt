-- Places looked at eight at a time: as one number their bytes are 0 where each of them is.
use Rattle.std.proofs.Common.{ℕ, zero, suc, ◌+◌, ◌-◌, ◌≤◌, Bool, true, false, ◌&&◌, ◌||◌, not, ◌≡◌, refl, sym, ◌∙◌, ap, arith, bit_or, ◌==◌}
use Rattle.std.specs.Int.Bits.{or_add_and, and_le_l, and_le_r}
use Rattle.std.proofs.lemmas.Grind.{common_steps}
use Rattle.words.specs.lists.Numbers.{any}
use Rattle.words.proofs.lists.Searches.{any-here, any-on, any-over}
use Rattle.words.proofs.lists.Tests.{or-no, or-none, or-l, or-true-l, or-true-r}
use Rattle.state.specs.State.{State, place_at, number_at, server_at}
use Rattle.fitness.specs.Fitness.{is_filled_place}
use Rattle.fitness.specs.inner.FitnessContracts.{is_set}

-- some bit is set in both together where one is set in either
pub or-some : (a b : ℕ) → not (bit_or a b == 0) ≡ (not (a == 0) || not (b == 0))
or-some a b = grind (arith, common_steps, or_add_and, and_le_l, and_le_r)

-- ---- tests
or-assoc : (a b c : Bool) → (a || (b || c)) ≡ (a || b || c)
or-assoc true b c = refl
or-assoc false b c = refl

or-swap : (a b c d : Bool) → (a || b || (c || d)) ≡ (a || c || (b || d))
or-swap true b c d = refl
or-swap false true true d = refl
or-swap false true false d = refl
or-swap false false c d = refl

not-all : (a b c : Bool) → not (a && b && c) ≡ (not a || not b || not c)
not-all false b c = refl
not-all true false c = refl
not-all true true c = refl

-- ---- any
pub any-parts : (p : ℕ → Bool) (i m n : ℕ) → any p i (m + n) ≡ (any p i m || any p (i + m) n)
unfolding any
any-parts p i zero n =
    let all : 0 + n ≡ n = omega arith in
    let here : i ≡ i + 0 = omega arith in
    ap (any p i) all ∙ ap (λ (j : ℕ). any p j n) here
any-parts p i (suc m) n =
    let all : suc m + n ≡ suc (m + n) = omega arith in
    let on : suc i + m ≡ i + suc m = omega arith in
    ap (any p i) all
    ∙ ap (λ (b : Bool). p i || b) (any-parts p (suc i) m n ∙ ap (λ (j : ℕ). any p (suc i) m || any p j n) on)
    ∙ or-assoc (p i) (any p (suc i) m) (any p (i + suc m) n)

pub any-empty : (p : ℕ → Bool) (k : ℕ) → any p k (k - k) ≡ false
any-empty p k = any-over p k k (omega arith)

pub any-one : (p : ℕ → Bool) (k : ℕ) → p k ≡ any p k 1
unfolding any
any-one p k = sym (or-no (p k))

any-either : (p q r : ℕ → Bool) → ((k : ℕ) → r k ≡ (p k || q k)) → (i n : ℕ) → any r i n ≡ (any p i n || any q i n)
unfolding any
any-either p q r h i zero = refl
any-either p q r h i (suc n) = rw (h i, any-either p q r h (suc i) n) (or-swap (p i) (q i) (any p (suc i) n) (any q (suc i) n))

-- of the numbers from a up to c those up to b, and the others
any-split : (p : ℕ → Bool) (a b c : ℕ) → a ≤ b → b ≤ c → any p a (c - a) ≡ (any p a (b - a) || any p b (c - b))
any-split p a b c h l =
    let all : c - a ≡ (b - a) + (c - b) = omega arith in
    let next : a + (b - a) ≡ b = omega arith in
    ap (any p a) all ∙ any-parts p a (b - a) (c - b) ∙ ap (λ (j : ℕ). any p a (b - a) || any p j (c - b)) next

-- eight numbers are looked at, from k on, behind those from d on, of which none passed; at the end those from 24 on
module _ (p : ℕ → Bool) (d k : ℕ) (h : d ≤ k) (passed : any p d (k - d) ≡ false) where
  eight-more : k + 8 - k ≡ 8
  eight-more = omega arith

  pub eight-on : any p k 8 ≡ false → any p d (k + 8 - d) ≡ false
  eight-on e = any-split p d k (k + 8) h (omega arith) ∙ or-none _ _ passed (ap (any p k) eight-more ∙ e)

  pub eight-found : k ≤ 24 → any p k 8 ≡ true → true ≡ any p d (32 - d)
  eight-found l e =
      sym (any-split p d k 32 h (omega arith) ∙ or-true-r _ _ (any-split p k (k + 8) 32 (omega arith) (omega arith)
      ∙ or-true-l _ _ (ap (any p k) eight-more ∙ e)))

  pub eight-last : d ≤ 24 → 24 ≤ k → any p 24 8 ≡ any p d (32 - d)
  eight-last l m =
      sym (any-split p d 24 32 l (omega arith)
      ∙ ap (λ (b : Bool). b || any p 24 8) (or-l _ (any p 24 (k - 24)) (sym (any-split p d 24 k l m) ∙ passed)))

-- ---- two numbers as one, the second times a number that is not 0
sum-set : (x y z : ℕ) → (y ≡ 0 → z ≡ 0) → (z ≡ 0 → y ≡ 0) → not (x + z == 0) ≡ (not (x == 0) || not (y == 0))
sum-set x y z f g = grind (arith, common_steps)

pub joined-set : (p : ℕ → Bool) (k n x y z : ℕ) → not (x == 0) ≡ any p k n → not (y == 0) ≡ any p (k + n) n → (y ≡ 0 → z ≡ 0) → (z ≡ 0 → y ≡ 0)
    → not (x + z == 0) ≡ any p k (n + n)
joined-set p k n x y z e q f g = sum-set x y z f g ∙ rw (e, q) (sym (any-parts p k n n))

-- ---- places
module _ (s : State) where
  filled-is : (k : ℕ) → is_filled_place s k ≡ ((is_set s.places k || is_set s.numbers k) || is_set s.servers k)
  filled-is k = not-all (place_at s k == 0) (number_at s k == 0) (server_at s k == 0)

  pub filled-one : (k : ℕ) → not (bit_or (bit_or (place_at s k) (number_at s k)) (server_at s k) == 0) ≡ is_filled_place s k
  filled-one k =
      or-some (bit_or (place_at s k) (number_at s k)) (server_at s k)
      ∙ ap (λ (t : Bool). t || is_set s.servers k) (or-some (place_at s k) (number_at s k)) ∙ sym (filled-is k)

  pub filled-eight : (k x y z : ℕ) → not (x == 0) ≡ any (is_set s.places) k 8 → not (y == 0) ≡ any (is_set s.numbers) k 8
      → not (z == 0) ≡ any (is_set s.servers) k 8 → not (bit_or (bit_or x y) z == 0) ≡ any (is_filled_place s) k 8
  filled-eight k x y z e f g =
      or-some (bit_or x y) z ∙ ap (λ (t : Bool). t || not (z == 0)) (or-some x y)
      ∙ ap (λ (t : Bool). t || not (y == 0) || not (z == 0)) e
      ∙ ap (λ (t : Bool). any (is_set s.places) k 8 || t || not (z == 0)) f
      ∙ ap (λ (t : Bool). any (is_set s.places) k 8 || any (is_set s.numbers) k 8 || t) g
      ∙ ap (λ (t : Bool). t || any (is_set s.servers) k 8)
      (sym (any-either (is_set s.places) (is_set s.numbers) (λ (j : ℕ). is_set s.places j || is_set s.numbers j) (λ j. refl) k 8))
      ∙ sym (any-either (λ (j : ℕ). is_set s.places j || is_set s.numbers j) (is_set s.servers) (is_filled_place s) filled-is k 8)

pub ruleset turns = (any-here, any-on, any-over)
