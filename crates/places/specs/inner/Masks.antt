-- Calls as the functions keep them: sets of schemes as masks, bit h for scheme h.
use Rattle.std.specs.Prelude.{ℕ, zero, suc, ◌+◌, ◌^◌, ◌<◌, Bool, ◌≡◌, List, Option, None, Some, if◌then◌else◌, nat_lt, ◌==◌, slice_index}
use Rattle.std.specs.Int.Bits.{bit_or}
use Rattle.words.specs.lists.Numbers.{tabulate, any, lowest}
use Rattle.std.specs.Int.{bit_at}
use Rattle.text.specs.declared.frames.sizes.TheConstants.{SCHEMES}
use Rattle.text.specs.frames.Frame.{size}
use Rattle.charts.specs.Chart.{Chart, argument}
use Rattle.chart_rows.specs.inner.ChartContracts.{Ready}
use Rattle.places.specs.chains.Calls.{has_call, is_call_of, is_circular, places}

-- the scheme that node v calls, 0 where it holds no call
abbrev pub called_at : Chart → ℕ → ℕ
called_at c v = if has_call c v then argument c v else 0

-- the numbers below n that pass
unfoldable pub mask_of : (ℕ → Bool) → ℕ → ℕ
mask_of p zero = 0
mask_of p (suc n) = mask_of p n + (if p n then 2 ^ n else 0)

-- for each scheme, those that the first v nodes call from it
abbrev pub call_masks : Chart → ℕ → List ℕ
call_masks c v = tabulate (λ g. mask_of (λ h. any (is_call_of c g h) 0 v) (suc SCHEMES)) (suc SCHEMES)

-- the schemes that those of a set call, by the masks of the first n
unfoldable pub called_by : List ℕ → ℕ → ℕ → ℕ
called_by masks set zero = 0
called_by masks set (suc g) = bit_or (called_by masks set g) (if bit_at set g == 1 then slice_index masks g else 0)

-- the schemes that chains of k calls from scheme 1 end in
unfoldable pub ends_by : List ℕ → ℕ → ℕ
ends_by masks zero = 2
ends_by masks (suc k) = called_by masks (ends_by masks k) (suc SCHEMES)

-- the lowest number of calls that no chain has, or none where there are chains of 16 calls: of 17 schemes
unfoldable pub longest_by : List ℕ → Option ℕ
longest_by masks = let k = lowest (λ k. ends_by masks k == 0) 0 (suc SCHEMES) in if nat_lt k (suc SCHEMES) then Some k else None

-- how many schemes the longest chain has, or none where a circle of calls can be reached
abbrev pub longest_chain : Chart → Option ℕ
longest_chain c = if is_circular c then None else Some (places c)

-- a node of an accepted chart, and the masks by the nodes before it
pub record CallsAsked (c : Chart) (v : ℕ) (masks : List ℕ) : Type 0 where
  pub ready : Ready c
  pub inside : v < size c
  pub noted : masks ≡ call_masks c v
