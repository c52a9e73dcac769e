-- An accepted text's contents stand in the buffer that it was read into.
use Rattle.std.proofs.Common.{◌≡◌, refl, ap₂, List, [], ◌∷◌, map, ℕ, suc, ◌%◌, ◌<◌, arith, slice_index}
use Rattle.std.proofs.lemmas.Grind.{common_steps}
use Rattle.words.specs.lists.Sequences.{over}
use Rattle.std.proofs.lemmas.Bool.{cond-false}
use Rattle.text.specs.frames.Frame.{contents}
use Rattle.text.specs.frames.Verdict.{fine}
use Rattle.text.specs.frames.Check.{text_verdict}
use Rattle.text.specs.frames.Read.{read_buffer}
use Rattle.text.proofs.frames.Verdicts.{next-first, when-fine}
use Rattle.text.proofs.frames.Contents.{text-told, contents-bytes}

bytes-same : (xs : List ℕ) → ((k : ℕ) → slice_index xs k < 256) → map (λ x. x % 256) xs ≡ xs
bytes-same [] h = refl
bytes-same (x ∷ xs) h = ap₂ (λ (y : ℕ) (ys : List ℕ). y ∷ ys) (omega (arith, h 0)) (bytes-same xs (λ k. h (suc k)))

module _ (most : ℕ) (t old : List ℕ) where
  pub read-fine : text_verdict most t ≡ fine → read_buffer most t old ≡ over (contents t) old
  unfolding read_buffer text_verdict
  read-fine v = grind (arith, common_steps, cond-false, when-fine, next-first, text-told, contents-bytes, bytes-same)
