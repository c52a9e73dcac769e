-- Which bytes pass as a prepared table: those that the preparation writes, and no others.
use Rattle.std.specs.Prelude.{ℕ, ◌<◌, ◌≡◌, List, All, length, take}
use Rattle.text.specs.frames.Verdict.{fine}
use Rattle.text.specs.frames.Answer.{success}
use Rattle.image.specs.Check.{image_verdict}
use Rattle.tables.specs.Prepare.{prepare}
use Rattle.table_check.specs.TableCheck.{prepared_verdict}

-- what success of the preparation leaves in the bytes that it counts
abbrev pub PassesPrepared : Type 0
PassesPrepared = (t old : List ℕ) (n : ℕ) → (prepare t old).reply ≡ success n → prepared_verdict (take n (prepare t old).buffer) ≡ fine

-- prepared anew into b, an image that is accepted gives b
abbrev pub IsPrepared : List ℕ → Type 0
IsPrepared b = (t : List ℕ) × (image_verdict t ≡ fine) × (prepare t b ≡ record { reply = success (length b); buffer = b })

abbrev pub PassesNoOther : Type 0
PassesNoOther = (b : List ℕ) → All (λ x. x < 256) b → prepared_verdict b ≡ fine → IsPrepared b
