-- The lists of one word more, by their first word: where its tick leads, and the lists of the words after it.
use Rattle.std.proofs.Common.{if◌then◌else◌, cond, ℕ, zero, suc, ◌+◌, ◌*◌, ◌-◌, ◌^◌, ◌≤◌, ◌<◌, Bool, true, false, ◌≡◌, refl, sym, ◌∙◌, ap, ap₂, List, ◌∷◌, ◌==◌}
use Rattle.std.proofs.Common.{zero-add, add-zero, add-suc, suc-mul, zero-mul, arith, pow-add}
use Rattle.std.proofs.Math.Nat.{mul-le-mul_left}
use Rattle.std.proofs.Math.Pow.{high, low}
use Rattle.std.proofs.lemmas.Grind.{common_steps}
use Rattle.words.specs.lists.Numbers.{count, sum}
use Rattle.words.proofs.lists.Counts.{count-le, count-snoc, count-all, count-none, count-alike}
use Rattle.words.proofs.lists.Sums.{sum-add, sum-zero, sum-same}
use Rattle.image.specs.Image.{Image}
use Rattle.tables.specs.Table.{table_image}
use Rattle.state.specs.State.{State}
use Rattle.ticks.specs.Tick.{MachineTick, finished, stopped, tick}
use Rattle.ticks.specs.declared.leaving.Leaving.{Leaving}
use Rattle.ticks.specs.inner.Leaves.{number_got, LeavesBy}
use Rattle.runs.specs.Run.{run_after, ticks}
use Rattle.fillings.specs.Counts.{words_of, lists, number_of, number_met, count_meeting}
use Rattle.fillings.specs.inner.TallyContracts.{is_taking}
use Rattle.fillings.proofs.Lists.{lists-suc}

-- ---- a * b numbers, by what they leave over b
count-block : (p : ℕ → Bool) (m n : ℕ) → count p 0 (m + n) ≡ count p 0 m + count (λ w. p (m + w)) 0 n
count-block p m zero =
    let e : count p 0 (m + 0) ≡ count p 0 m = ap (count p 0) (add-zero m) in
    let z : count (λ w. p (m + w)) 0 0 ≡ 0 = count-none (λ w. p (m + w)) 0 0 (λ k a b. absurd (omega arith)) in
    omega arith
count-block p m (suc n) =
    let e : count p 0 (m + suc n) ≡ count p 0 (suc (m + n)) = ap (count p 0) (add-suc m n) in
    let x : cond {A = ℕ} (p (0 + (m + n))) 1 0
    ≡ (if p (m + (0 + n)) then 1 else 0) = ap (λ (k : ℕ). cond {A = ℕ} (p k) 1 0) (omega arith) in
    omega (arith, e, x, count-snoc p 0 (m + n), count-snoc (λ w. p (m + w)) 0 n, count-block p m n)

by-rest : (p : ℕ → Bool) (b a : ℕ) → count p 0 (a * b) ≡ sum (λ w. count (λ q. p (q * b + w)) 0 a) 0 b
by-rest p b zero = grind (arith, common_steps, sum-zero, count-none, zero-mul)
by-rest p b (suc a) = grind (arith, common_steps, by-rest p b a, sum-add, count-snoc, suc-mul, zero-add, count-block)

-- ---- how many of the lists that begin alike meet a number
abbrev pub share : Image → ℕ → ℕ → ℕ → MachineTick → ℕ
share i n k number (finished m c t) = count_meeting i t n k number
share i n k number (stopped m) = if m == number then lists n k else 0

pub all-or-none : (b : Bool) (m : ℕ) → count (λ q. b) 0 m ≡ (if b then m else 0)
all-or-none true m = count-all 0 m
all-or-none false m = count-none (λ q. false) 0 m (λ k l h. refl)

module _ (i : Image) (s : State) (n k number : ℕ) where
  abbrev meets : List ℕ → Bool
  meets ws = number_met i s ws == number

  words-more : (q w : ℕ) → w < 2 ^ k → words_of (suc n) k (q * 2 ^ k + w) ≡ w ∷ words_of n k q
  unfolding words_of
  words-more q w l = ap₂ (λ (a : ℕ) (b : ℕ). a ∷ words_of n k b) (low q k l) (high q k l)

  by-tick : (w : ℕ) (x : MachineTick) → tick i s w ≡ x → count (λ q. meets (w ∷ words_of n k q)) 0 (lists n k) ≡ share i n k number x
  unfolding ticks count_meeting
  by-tick w (finished m c t) e =
      count-alike (λ q. number_met i t (words_of n k q) == number) (λ q. meets (w ∷ words_of n k q)) 0 (lists n k)
      (λ q l h. ap (λ (y : MachineTick). number_of (run_after s (λ u. ticks i u (words_of n k q)) y).verdict == number) e)
  by-tick w (stopped m) e =
      count-alike (λ q. m == number) (λ q. meets (w ∷ words_of n k q)) 0 (lists n k)
      (λ q l h. ap (λ (y : MachineTick). number_of (run_after s (λ u. ticks i u (words_of n k q)) y).verdict == number) e)
      ∙ all-or-none (m == number) (lists n k)

  pub meeting-more : count_meeting i s (suc n) k number ≡ sum (λ w. share i n k number (tick i s w)) 0 (2 ^ k)
  unfolding count_meeting
  meeting-more =
      ap (count (λ x. meets (words_of (suc n) k x)) 0) (lists-suc n k ∙ pow-add 2 (n * k) k)
      ∙ by-rest (λ x. meets (words_of (suc n) k x)) (2 ^ k) (lists n k)
      ∙ sum-same (λ w. count (λ q. meets (words_of (suc n) k (q * 2 ^ k + w))) 0 (lists n k))
      (λ w. share i n k number (tick i s w)) 0 (2 ^ k)
      (λ w a l. count-alike (λ q. meets (w ∷ words_of n k q)) (λ q. meets (words_of (suc n) k (q * 2 ^ k + w))) 0 (lists n k)
      (λ q b h. ap meets (words-more q w (omega arith))) ∙ by-tick w (tick i s w) refl)

-- no word is left: the one list has come to its end
pub meeting-none : (i : Image) (s : State) (k number : ℕ) → count_meeting i s 0 k number ≡ (if 0 == number then 1 else 0)
unfolding count_meeting words_of ticks
meeting-none i s k number = ap (λ (m : ℕ). count (λ x. 0 == number) 0 (2 ^ m)) (zero-mul k) ∙ all-or-none (0 == number) 1

-- ---- how many of the lists that begin with one word may meet a number
pub share-few : (i : Image) (n k number : ℕ) (x : MachineTick) → share i n k number x ≤ lists n k
unfolding count_meeting
share-few i n k number (finished m c t) = count-le (λ x. number_met i t (words_of n k x) == number) 0 (lists n k)
share-few i n k number (stopped m) = grind (arith, common_steps)

-- ---- the words that pass a test
pub count-start : (p : ℕ → Bool) → 0 ≡ count p 0 0
count-start p = sym (count-none p 0 0 (λ k a b. absurd (omega arith)))

-- a part of what there is room for
pub part-room : (each m p x : ℕ) → m ≤ p → x + each * p ≤ 65536 → x + each * m ≤ 65536
part-room each m p x h l = omega (arith, mul-le-mul_left each h)

-- ---- the last words of lists
share-last : (i : Image) (k number : ℕ) (x : MachineTick) → share i 0 k number x ≡ (if number_got x == number then 1 else 0)
share-last i k number (finished m c t) = meeting-none i t k number
share-last i k number (stopped m) = ap (λ (j : ℕ). if m == number then 2 ^ j else 0) (zero-mul k)

sum-count : (p : ℕ → Bool) (i n : ℕ) → sum (λ w. if p w then 1 else 0) i n ≡ count p i n
unfolding sum count
sum-count p i zero = refl
sum-count p i (suc n) = ap (λ (m : ℕ). (if p i then 1 else 0) + m) (sum-count p (suc i) n)

sum-rest : (p : ℕ → Bool) (i n : ℕ) → sum (λ w. if p w then 0 else 1) i n + count p i n ≡ n
unfolding sum count
sum-rest p i zero = refl
sum-rest p i (suc n) = go (p i) (sum-rest p (suc i) n)
  where
    go : (t : Bool) → sum (λ w. if p w then 0 else 1) (suc i) n + count p (suc i) n ≡ n
        → (if t then 0 else 1) + sum (λ w. if p w then 0 else 1) (suc i) n + ((if t then 1 else 0) + count p (suc i) n) ≡ suc n
    go true h = omega arith
    go false h = omega arith

module _ (b : List ℕ) (s : State) (k : ℕ) (x : Leaving) (y : LeavesBy b s x) where
  -- what one word adds to the lists that meet a number
  abbrev met_by : ℕ → Bool → ℕ
  met_by number t = if (if t then 0 else 18) == number then 1 else 0

  last-meets : (number : ℕ) → count_meeting (table_image b) s 1 k number ≡ sum (λ w. met_by number (is_taking b x w)) 0 (2 ^ k)
  last-meets number = grind (arith, common_steps, sum-same, meeting-more, share-last)

  by-each : (number : ℕ) (f : Bool → ℕ) → ((t : Bool) → met_by number t ≡ f t)
      → count_meeting (table_image b) s 1 k number ≡ sum (λ w. f (is_taking b x w)) 0 (2 ^ k)
  by-each number f e = grind (arith, common_steps, sum-same, last-meets)

  pub last-ended : count_meeting (table_image b) s 1 k 0 ≡ count (is_taking b x) 0 (2 ^ k)
  last-ended = by-each 0 (λ t. if t then 1 else 0) (elim [ true ↦ refl | false ↦ refl ]) ∙ sum-count (is_taking b x) 0 (2 ^ k)

  pub last-full : count_meeting (table_image b) s 1 k 17 ≡ 0
  last-full = by-each 17 (λ t. 0) (elim [ true ↦ refl | false ↦ refl ]) ∙ sum-zero (λ w. 0) 0 (2 ^ k) (λ w a l. refl)

  pub last-unmatched : count_meeting (table_image b) s 1 k 18 ≡ 2 ^ k - count (is_taking b x) 0 (2 ^ k)
  last-unmatched =
      let e : count_meeting (table_image b) s 1 k 18 ≡ sum (λ w. if is_taking b x w then 0 else 1) 0 (2 ^ k) =
      by-each 18 (λ t. if t then 0 else 1) (elim [ true ↦ refl | false ↦ refl ]) in
      omega (arith, e, sum-rest (is_taking b x) 0 (2 ^ k))
