-- What the functions that find the conditions against rows ask of a prepared table and promise.
use Rattle.std.specs.Prelude.{ℕ, zero, suc, ◌^◌, ◌≤◌, ◌<◌, Bool, ◌&&◌, ◌||◌, not, ◌≡◌, List, if◌then◌else◌, ◌==◌}
use Rattle.std.specs.Int.Bits.{bit_and, bit_or}
use Rattle.words.specs.lists.Numbers.{lowest}
use Rattle.words.specs.bits.Word.{is_agreeing}
use Rattle.text.specs.frames.Frame.{size, field, pair_at}
use Rattle.image.specs.declared.layout.TheConstants.{CARE, VALUES, FUNCTION_BIT, NO_BIT}
use Rattle.cause.specs.Cause.{is_differing}

-- the values of the row in frame f lie within its care mask
abbrev pub ValuesWithin : List ℕ → ℕ → Type 0
ValuesWithin b f = bit_and (pair_at b f VALUES) (pair_at b f CARE) ≡ pair_at b f VALUES

pub record RowAsked (b : List ℕ) (f : ℕ) : Type 0 where
  pub inside : f < size b
  pub kept : ValuesWithin b f

pub record RowsAsked (b : List ℕ) (first end : ℕ) : Type 0 where
  pub inside : end ≤ size b
  pub kept : (f : ℕ) → first ≤ f → f < end → ValuesWithin b f

-- a row that asks for this bit is let through; bit 2 says that no bit decides
abbrev pub is_let_through : ℕ → ℕ → Bool
is_let_through only bit = bit == NO_BIT || (only == NO_BIT || only == bit)

-- the condition against the row in frame f as a mask, and those against n rows, joined
abbrev pub mask_against_in : List ℕ → ℕ → ℕ → ℕ → ℕ
mask_against_in b w bit f = let care = pair_at b f CARE in let values = pair_at b f VALUES in
    if is_let_through (field b f FUNCTION_BIT) bit && not (is_agreeing w care values) then 2 ^ lowest (is_differing w care values) 0 16
    else 0

unfoldable pub mask_against_from : List ℕ → ℕ → ℕ → ℕ → ℕ → ℕ
mask_against_from b w bit f zero = 0
mask_against_from b w bit f (suc n) = bit_or (mask_against_in b w bit f) (mask_against_from b w bit (suc f) n)
