-- Pairs of rows in blocks: what the rows of a block share, and whether one of them and one behind them are together.
use Rattle.std.specs.Prelude.{ℕ, ◌-◌, ◌≤◌, ◌<◌, Bool, List, ◌≡◌, ◌==◌}
use Rattle.std.specs.Int.Bits.{bit_and}
use Rattle.std.specs.List.{list_any, range_with_len}
use Rattle.text.specs.frames.Frame.{pair_at}
use Rattle.image.specs.declared.layout.TheConstants.{CARE, VALUES}
use Rattle.image.specs.Image.{Row}
use Rattle.image.specs.Decode.{row_in_frame}
use Rattle.covering.specs.inner.CoveringContracts.{is_together_with_some}

-- the rows in frames from first up to end all care for these conditions, and have these values there
pub record Shares (b : List ℕ) (first end care values : ℕ) : Type 0 where
  pub own : bit_and values care ≡ values
  pub cares : (f : ℕ) → first ≤ f → f < end → bit_and (pair_at b f CARE) care ≡ care
  pub has : (f : ℕ) → first ≤ f → f < end → bit_and (pair_at b f VALUES) care ≡ values

-- a row that has these values wherever it cares for the conditions
abbrev pub is_agreeing_with : ℕ → ℕ → Row → Bool
is_agreeing_with care values r = bit_and r.values care == bit_and values r.care

-- some word and bit match a row in the frames from first up to end and one in those from there up to last
abbrev pub has_any_across : List ℕ → ℕ → ℕ → ℕ → Bool
has_any_across b first end last =
    list_any (λ f. is_together_with_some b (row_in_frame b f) first (end - first)) (range_with_len end (last - end))
