-- What C is told about a tick code.
use Rattle.std.specs.Prelude.{ℕ, ◌≡◌}
use Rattle.ticks.specs.codes.Codes.{meaning_of, tick_kind_of, called_of}

-- the number returned is the tick kind, 5 for a drop, 255 for a code that no tick has; the number called is written, 0 for none
pub record Meant (code returned called : ℕ) : Type 0 where
  pub kind-is : returned ≡ tick_kind_of (meaning_of code)
  pub called-is : called ≡ called_of (meaning_of code)
