-- Of texts that are read alike the same table is prepared.
use Rattle.std.proofs.Common.{ℕ, ◌≡◌, ap₂, List}
use Rattle.text.specs.frames.Verdict.{Verdict}
use Rattle.text.specs.frames.Answer.{buffer_on}
use Rattle.text.specs.frames.Alike.{ReadAlike}
use Rattle.image.proofs.Alike.{image-verdict}
use Rattle.tables.specs.Prepare.{noted_table, prepare}

pub prepares : (t u : List ℕ) → ReadAlike t u → (out : List ℕ) → prepare t out ≡ prepare u out
unfolding prepare
prepares t u A out = ap₂ (λ (v : Verdict) (c : List ℕ). buffer_on v 1 (λ _. noted_table c) out) (image-verdict t u A) A.contents
