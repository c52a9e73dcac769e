-- Texts that are read alike, and that every text is read as it is in capitals.
use Rattle.std.specs.Prelude.{ℕ, ◌≡◌, List, map}
use Rattle.text.specs.digits.Digit.{capital}
use Rattle.text.specs.frames.Frame.{contents}
use Rattle.text.specs.frames.Check.{text_verdict}
use Rattle.text.specs.frames.Read.{read_buffer}

-- all that is read of a text
pub record ReadAlike (t u : List ℕ) : Type 0 where
  pub verdict : (most : ℕ) → text_verdict most t ≡ text_verdict most u
  pub contents : contents t ≡ contents u
  pub buffer : (most : ℕ) (old : List ℕ) → read_buffer most t old ≡ read_buffer most u old

-- whatever its characters are and however long it is
abbrev pub CapitalsAlike : Type 0
CapitalsAlike = (t : List ℕ) → ReadAlike (map capital t) t
