-- The set bits of a mask taken off one by one, the lowest first: what is left costs the price of that bit less.
use Rattle.std.proofs.Common.{ℕ, zero, suc, ◌+◌, ◌*◌, ◌-◌, ◌/◌, ◌%◌, ◌^◌, ◌≤◌, ◌<◌, ◌≡◌, refl, sym, ◌∙◌, ap, ap₂, List, pow-suc, zero-mul, slice_index}
use Rattle.std.proofs.Common.{one-mul, arith, bit_and}
use Rattle.std.proofs.Math.Arith.{lt-one}
use lib.Bits.{and_step, and_self, and_le_r}
use lib.Count.{count_trailing_zeros, under}
use Rattle.std.proofs.lemmas.Grind.{common_steps}
use Rattle.words.specs.lists.Numbers.{sum}
use Rattle.words.proofs.lists.Searches.{sum-shift}
use Rattle.std.specs.Int.{bit_at}
use Rattle.words.proofs.lists.Sums.{sum-same, sum-zero}
use Rattle.words.proofs.bits.BitLaws.{bit-zero, bit-none}
use Rattle.words.proofs.bits.MaskLaws.{bit-suc}
use Rattle.prices.specs.Prices.{tick_price}
use Rattle.prices.proofs.Sums.{tick-most}

-- ---- the lowest k bits of n, each at its price
abbrev costs : (ℕ → ℕ) → ℕ → ℕ → ℕ
costs g k n = sum (λ j. bit_at n j * g j) 0 k

-- bit 0, and the bits above it
costs-step : (g : ℕ → ℕ) (k n : ℕ) → costs g (suc k) n ≡ n % 2 * g 0 + costs (λ j. g (suc j)) k (n / 2)
unfolding sum
costs-step g k n = grind (arith, common_steps, sum-same, bit-zero, bit-suc, sum-shift)

costs-even : (g : ℕ → ℕ) (k n m : ℕ) → n % 2 ≡ 0 → n / 2 ≡ m → costs g (suc k) n ≡ costs (λ j. g (suc j)) k m
costs-even g k n m e h = grind (arith, common_steps, zero-mul, costs-step)

costs-odd : (g : ℕ → ℕ) (k n : ℕ) → n % 2 ≡ 1 → costs g (suc k) n ≡ g 0 + costs (λ j. g (suc j)) k (n / 2)
costs-odd g k n e = costs-step g k n ∙ ap (λ (x : ℕ). x * g 0 + costs (λ j. g (suc j)) k (n / 2)) e ∙ omega (arith, one-mul (g 0))

tick-none : (prices : List ℕ) → tick_price prices 0 ≡ 0
unfolding tick_price
tick-none prices = grind (arith, common_steps, zero-mul, sum-zero, bit-none)

-- n without its lowest set bit
abbrev pub less : ℕ → ℕ
less n = bit_and n (n - 1)

less-even : (n : ℕ) → n % 2 ≡ 0 → 0 < n → (less n / 2 ≡ less (n / 2)) × (less n % 2 ≡ 0)
less-even n e h = grind (arith, common_steps, and_step)

less-odd : (n : ℕ) → n % 2 ≡ 1 → (less n / 2 ≡ n / 2) × (less n % 2 ≡ 0)
less-odd n e =
    let q : bit_and (n / 2) ((n - 1) / 2) ≡ n / 2 = ap (λ (x : ℕ). bit_and (n / 2) x) (omega arith) ∙ and_self (n / 2) in
    (omega (arith, and_step n (n - 1), q), omega (arith, and_step n (n - 1), q))

-- the lowest set bit is one of the k, and what is left costs its price less
pub record LowestBit (g : ℕ → ℕ) (k n : ℕ) : Type 0 where
  pub inside : count_trailing_zeros k n < k
  pub cost : costs g k n ≡ g (count_trailing_zeros k n) + costs g k (less n)

trailing-step : (k n : ℕ) → count_trailing_zeros (suc k) n ≡ under (n % 2) (count_trailing_zeros k (n / 2))
unfolding count_trailing_zeros
trailing-step k n = refl

lowest-off : (g : ℕ → ℕ) (k n : ℕ) → 0 < n → n < 2 ^ k → LowestBit g k n
lowest-off g zero n h l = absurd (omega (arith, lt-one l))
lowest-off g (suc k) n h l = go (n % 2) refl (λ p. lowest-off (λ j. g (suc j)) k (n / 2) p (omega (arith, pow-suc 2 k)))
  where
    go : (d : ℕ) → n % 2 ≡ d → (0 < n / 2 → LowestBit (λ j. g (suc j)) k (n / 2)) → LowestBit g (suc k) n
    go zero e ih =
        let r = ih (omega arith) in
        let t : count_trailing_zeros (suc k) n ≡ suc (count_trailing_zeros k (n / 2)) =
        trailing-step k n ∙ ap (λ (d : ℕ). under d (count_trailing_zeros k (n / 2))) e in
        let x = less-even n e h in
        record {
          inside = omega (arith, t, r.inside);
          cost = costs-even g k n (n / 2) e refl ∙ r.cost
              ∙ ap₂ (λ (a b : ℕ). g a + b) (sym t) (sym (costs-even g k (less n) (less (n / 2)) x.1 x.0));
        }
    go (suc zero) e ih =
        let t : count_trailing_zeros (suc k) n ≡ 0 = trailing-step k n ∙ ap (λ (d : ℕ). under d (count_trailing_zeros k (n / 2))) e in
        let x = less-odd n e in
        record {
          inside = omega (arith, t);
          cost = costs-odd g k n e
              ∙ ap₂ (λ (a b : ℕ). g a + b) (sym t) (sym (costs-even g k (less n) (n / 2) x.1 x.0));
        }
    go (suc (suc d)) e ih = absurd (omega arith)

-- ---- what a loop over the set bits has added, and what is left of the mask
pub record CountedBits (prices : List ℕ) (mask total rest : ℕ) : Type 0 where
  pub sum : total + tick_price prices rest ≡ tick_price prices mask
  pub low : rest < 2 ^ 32

module _ {prices : List ℕ} {mask total rest : ℕ} (inv : CountedBits prices mask total rest) where
  abbrev j : ℕ
  j = count_trailing_zeros 32 rest

  module _ (h : rest ≡ 0 → ⊥) where
    off : LowestBit (λ i. slice_index prices i) 32 rest
    off = lowest-off (λ i. slice_index prices i) 32 rest (omega arith) inv.low

    pub less-falls : less rest < rest
    less-falls = omega (arith, and_le_r rest (rest - 1))

    pub counted-more : CountedBits prices mask (total + slice_index prices j) (less rest)
    unfolding tick_price
    counted-more = record { sum = omega (arith, inv.sum, off.cost); low = omega (arith, inv.low, less-falls) }

    -- a part of the whole sum
    pub bit-fits : ((i : ℕ) → slice_index prices i ≤ 65535) → total + slice_index prices j ≤ 2097120
    bit-fits small = omega (arith, counted-more.sum, tick-most prices small mask)

  pub counted-all : rest ≡ 0 → total ≡ tick_price prices mask
  counted-all e = omega (arith, inv.sum, ap (tick_price prices) e, tick-none prices)
