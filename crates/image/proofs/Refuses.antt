-- The image check refuses with 1 to 3 and 11 to 13 alone.
use Rattle.std.proofs.Common.{ℕ, ◌≤◌, List, arith}
use Rattle.std.proofs.lemmas.Grind.{common_steps}
use Rattle.text.specs.frames.Frame.{contents}
use Rattle.text.specs.frames.Check.{text_verdict}
use Rattle.text.proofs.frames.Refuses.{RefusesWith, next-refuses, text-refuses}
use Rattle.image.specs.Check.{table_verdict, image_verdict}

-- a refusal that changes no buffer and no state
abbrev pub Early : ℕ → Type 0
Early k = (1 ≤ k) × (k ≤ 16)

early-table : (b : List ℕ) → RefusesWith Early (table_verdict b)
unfolding table_verdict
early-table b = grind (arith, common_steps)

pub early-image : (t : List ℕ) → RefusesWith Early (image_verdict t)
unfolding image_verdict
early-image t =
    next-refuses Early (text_verdict 29831 t) _
    (text-refuses Early (omega arith, omega arith) (omega arith, omega arith) (omega arith, omega arith) 29831 t) (early-table (contents t))
