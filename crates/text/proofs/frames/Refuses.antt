-- Which numbers a chain of verdicts can refuse with.
use Rattle.std.proofs.Common.{ℕ, Bool, true, false, List, arith}
use Rattle.std.proofs.lemmas.Grind.{common_steps}
use Rattle.text.specs.frames.Verdict.{Verdict, fine, refused, next, when, at_lowest}
use Rattle.text.specs.frames.Check.{text_verdict}

-- a refusal has a number with the property P
abbrev pub RefusesWith : (ℕ → Type 0) → Verdict → Type 0
RefusesWith P fine = Unit {0}
RefusesWith P (refused k i) = P k

module _ (P : ℕ → Type 0) where
  pub next-refuses : (v : Verdict) (rest : Unit {0} → Verdict) → RefusesWith P v → RefusesWith P (rest tt) → RefusesWith P (next v rest)
  next-refuses fine rest p q = q
  next-refuses (refused k i) rest p q = p

  pub when-refuses : (k : ℕ) (b : Bool) → P k → RefusesWith P (when k b)
  when-refuses k true h = h
  when-refuses k false h = tt

  pub lowest-refuses : (k : ℕ) (p : ℕ → Bool) (n : ℕ) → P k → RefusesWith P (at_lowest k p n)
  lowest-refuses k p n h = grind (arith, common_steps)

  pub text-refuses : P 1 → P 2 → P 3 → (most : ℕ) (t : List ℕ) → RefusesWith P (text_verdict most t)
  unfolding text_verdict
  text-refuses a b c most t = grind (arith, common_steps, next-refuses, when-refuses, lowest-refuses)
