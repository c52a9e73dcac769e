-- Texts that are read alike are the same image to the check.
use Rattle.std.proofs.Common.{ℕ, ◌≡◌, ap₂, List}
use Rattle.text.specs.frames.Verdict.{Verdict, next}
use Rattle.text.specs.frames.Alike.{ReadAlike}
use Rattle.image.specs.Check.{table_verdict, image_verdict}

pub image-verdict : (t u : List ℕ) → ReadAlike t u → image_verdict t ≡ image_verdict u
unfolding image_verdict
image-verdict t u A = ap₂ (λ (v : Verdict) (c : List ℕ). next v λ _. table_verdict c) (A.verdict 29831) A.contents
