-- The price of ticks: a price list gives each micro operation, mask bit 0 first, hundredths of a cent a tick.
use Rattle.std.specs.Prelude.{ℕ, ◌+◌, ◌*◌, ◌/◌, List, [], ◌∷◌, slice_index}
use Rattle.words.specs.lists.Numbers.{sum}
use Rattle.std.specs.Int.{bit_at}

-- of one tick: the prices of its mask's set bits
unfoldable pub tick_price : List ℕ → ℕ → ℕ
tick_price prices mask = sum (λ j. bit_at mask j * slice_index prices j) 0 32

unfoldable pub hundredths : List ℕ → List ℕ → ℕ
hundredths prices [] = 0
hundredths prices (mask ∷ masks) = tick_price prices mask + hundredths prices masks

-- in cents: divided once, for all ticks together, halves upward
abbrev pub price : List ℕ → List ℕ → ℕ
price prices masks = (hundredths prices masks + 50) / 100
