-- What lies past the longest text is never needed: such a text is refused, and a function that is the same for all of them needs only one
-- character more.
use Rattle.std.proofs.Common.{ℕ, ◌≤◌, ◌<◌, ◌≡◌, List, arith, length, take}
use Rattle.std.proofs.lemmas.Grind.{common_steps}
use Rattle.text.specs.frames.Verdict.{refused}
use Rattle.text.specs.frames.Check.{text_verdict}

-- 1 refuses every text that is longer than the most
pub too-long : (most : ℕ) (t : List ℕ) → most < length t → text_verdict most t ≡ refused 1 0
unfolding text_verdict
too-long most t h = grind (arith, common_steps)

-- a function of texts that is the same for all longer ones needs no more than one character past the most
module _ (f : List ℕ → List ℕ) (n : ℕ) (x : List ℕ) (long : (t : List ℕ) → n ≤ length t → f t ≡ x) where
  pub front-enough : (t : List ℕ) → f (take n t) ≡ f t
  front-enough t = grind (arith, common_steps)
