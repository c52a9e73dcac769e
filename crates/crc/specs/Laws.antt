-- What the sum of bytes tells about them.
use Rattle.std.specs.Prelude.{ℕ, ◌<◌, ◌≡◌, ◌≢◌, List, ◌∷◌, ◌++◌, All}
use Rattle.crc.specs.Crc.{crc}

-- all of them below 256
abbrev pub Bytes : List ℕ → Type 0
Bytes xs = All (λ x. x < 256) xs

-- part by part comes to the sum of the whole
abbrev pub GoesOn : Type 0
GoesOn = (s : ℕ) (xs ys : List ℕ) → Bytes xs → crc (crc s xs) ys ≡ crc s (xs ++ ys)

-- bytes that differ in a single one, by however many bits, have different sums
abbrev pub TellsChange : Type 0
TellsChange = (s : ℕ) (xs : List ℕ) (x y : ℕ) (zs : List ℕ) → Bytes xs → x < 256 → y < 256 → Bytes zs → x ≢ y
    → crc s (xs ++ x ∷ zs) ≢ crc s (xs ++ y ∷ zs)
