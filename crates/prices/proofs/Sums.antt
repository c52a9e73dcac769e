-- The sum of prices, bit by bit and tick by tick as the loops add it, and how large it can be.
use Rattle.std.proofs.Common.{ℕ, zero, suc, ◌+◌, ◌*◌, ◌≤◌, ◌<◌, ◌≡◌, refl, ◌∙◌, ap, List, [], ◌∷◌, add-one, arith, length, take, slice_index}
use Rattle.std.proofs.Common.{length-take, take_all}
use Rattle.std.proofs.lemmas.Grind.{common_steps}
use Rattle.words.proofs.lists.Sums.{sum-most}
use Rattle.std.specs.Int.{bit_at}
use Rattle.prices.specs.Prices.{tick_price, hundredths}

-- one tick more
pub hundredths-next : (prices masks : List ℕ) (i : ℕ) → i < length masks
    → hundredths prices (take (suc i) masks) ≡ hundredths prices (take i masks) + tick_price prices (slice_index masks i)
unfolding hundredths
hundredths-next prices [] i l = absurd (omega arith)
hundredths-next prices (m ∷ masks) zero l = omega arith
hundredths-next prices (m ∷ masks) (suc i) l = omega (arith, hundredths-next prices masks i (omega arith))

-- prices of 0 to 65,535
module _ (prices : List ℕ) (small : (j : ℕ) → slice_index prices j ≤ 65535) where
  one-bit : (m j : ℕ) → bit_at m j * slice_index prices j ≤ 65535
  one-bit m j = grind (arith, common_steps)

  pub tick-most : (m : ℕ) → tick_price prices m ≤ 2097120
  unfolding tick_price
  tick-most m = sum-most (λ j. bit_at m j * slice_index prices j) 65535 0 32 (λ j a b. one-bit m j)

  pub hundredths-most : (masks : List ℕ) → hundredths prices masks ≤ 2097120 * length masks
  unfolding hundredths
  hundredths-most [] = omega arith
  hundredths-most (m ∷ masks) = omega (arith, tick-most m, hundredths-most masks)

-- ---- what a loop over the ticks has added
pub record SummedTicks (prices masks : List ℕ) (total i : ℕ) : Type 0 where
  pub sum : total ≡ hundredths prices (take i masks)
  pub inside : i ≤ length masks

pub summed-none : {prices masks : List ℕ} → SummedTicks prices masks 0 0
unfolding hundredths
summed-none = record { sum = refl; inside = omega arith }

module _ {prices masks : List ℕ} {total i : ℕ} (inv : SummedTicks prices masks total i) where
  pub summed-more : i < length masks → {r : ℕ} → r ≡ tick_price prices (slice_index masks i) → SummedTicks prices masks (total + r) (i + 1)
  summed-more l e = grind (arith, common_steps, add-one, hundredths-next)

  pub summed-fits : ((j : ℕ) → slice_index prices j ≤ 65535) → length masks ≤ 65536 → total ≤ 137436856320
  summed-fits small most = omega (arith, inv.sum, hundredths-most prices small (take i masks), length-take i masks)

  pub summed-all : length masks ≤ i → total ≡ hundredths prices masks
  summed-all l = inv.sum ∙ ap (hundredths prices) (take_all i masks l)
