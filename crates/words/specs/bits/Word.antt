-- Words: bit i of a word is condition i (`bit_at` of std).
use Rattle.std.specs.Prelude.{ℕ, Bool, ◌==◌}
use Rattle.std.specs.Int.Bits.{bit_and}

-- the bits of a word that the care mask has are the values
abbrev pub is_agreeing : ℕ → ℕ → ℕ → Bool
is_agreeing w care values = bit_and w care == values
