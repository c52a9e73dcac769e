-- On texts that are read alike the counts are the same.
use Rattle.std.proofs.Common.{ℕ, ◌≡◌, List, arith}
use Rattle.std.proofs.lemmas.Grind.{common_steps}
use Rattle.text.specs.frames.Alike.{ReadAlike}
use Rattle.image.proofs.Alike.{image-verdict}
use Rattle.fillings.specs.Counts.{count_verdict, count_fillings}

pub counts-alike : (t u : List ℕ) → ReadAlike t u → (size n k : ℕ) → count_fillings t size n k ≡ count_fillings u size n k
unfolding count_fillings count_verdict
counts-alike t u A size n k = grind (arith, common_steps, image-verdict)
