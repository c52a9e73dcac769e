-- Of texts that are read alike the same smaller image is written.
use Rattle.std.proofs.Common.{ℕ, ◌≡◌, List, arith}
use Rattle.std.proofs.lemmas.Grind.{common_steps}
use Rattle.text.specs.frames.Alike.{ReadAlike}
use Rattle.image.proofs.Alike.{image-verdict}
use Rattle.minimising.specs.Entry.{minimise_verdict, minimise}

pub minimises : (t u : List ℕ) → ReadAlike t u → (out : List ℕ) → minimise t out ≡ minimise u out
unfolding minimise minimise_verdict
minimises t u A out = grind (arith, common_steps, image-verdict)
