-- Texts that are read alike need the same places.
use Rattle.std.proofs.Common.{ℕ, ◌≡◌, List, arith}
use Rattle.text.specs.frames.Alike.{ReadAlike}
use Rattle.translator.proofs.Alike.{translate-verdict}
use Rattle.places.specs.Entry.{places_verdict, places_needed}

pub needs : (t u : List ℕ) → ReadAlike t u → places_needed t ≡ places_needed u
unfolding places_needed places_verdict
needs t u a = grind (arith, translate-verdict)
