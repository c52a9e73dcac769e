-- Verdicts: no test refuses, or the number of the first one that does and the frame index that it carries.
use Rattle.std.specs.Prelude.{ℕ, Bool, true, false, if◌then◌else◌, nat_lt}
use Rattle.words.specs.lists.Numbers.{lowest}

-- what is found, by number and index
pub data Verdict : Type 0 where
  fine : Verdict
  refused : ℕ → ℕ → Verdict

-- the next test is tried where none before it refuses
abbrev pub next : Verdict → (Unit {0} → Verdict) → Verdict
next fine v = v tt
next (refused n i) v = refused n i

-- refused with number n and index 0 where the test holds
abbrev pub when : ℕ → Bool → Verdict
when n true = refused n 0
when n false = fine

-- refused with number n at the lowest of k frames where the test holds
abbrev pub at_lowest : ℕ → (ℕ → Bool) → ℕ → Verdict
at_lowest n p k = let i = lowest p 0 k in if nat_lt i k then refused n i else fine
