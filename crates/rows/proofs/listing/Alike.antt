-- Of texts that are read alike the same rows are listed.
use Rattle.std.proofs.Common.{ℕ, ◌≡◌, List, arith}
use Rattle.std.proofs.lemmas.Grind.{common_steps}
use Rattle.text.specs.frames.Alike.{ReadAlike}
use Rattle.image.proofs.Alike.{image-verdict}
use Rattle.rows.specs.listing.Listing.{list}

pub lists : (t u : List ℕ) → ReadAlike t u → (firsts counts : List ℕ) → list t firsts counts ≡ list u firsts counts
unfolding list
lists t u A firsts counts = grind (arith, common_steps, image-verdict)
