-- What each way out of the functions on codes answers.
use Rattle.std.proofs.Common.{◌≡◌, ℕ, ◌-◌, ◌≤◌, ◌<◌, arith, ne_eqb}
use borrow.Author.Tests.{lt-leb}
use Rattle.std.proofs.lemmas.Grind.{common_steps}
use Rattle.ticks.specs.declared.codes.Meaning.TheVariants.{OperationCall, FunctionCall, Unknown}
use Rattle.ticks.specs.codes.Codes.{meaning_of}

-- ---- what a code stands for, by the range that it lies in
module _ (c : ℕ) where
  pub in-operations : 18 ≤ c → c < 33 → OperationCall (c - 16) ≡ meaning_of c
  unfolding meaning_of
  in-operations l h = grind (arith, common_steps)

  pub in-functions : 66 ≤ c → c < 81 → FunctionCall (c - 64) ≡ meaning_of c
  unfolding meaning_of
  in-functions l h = grind (arith, common_steps)

  module _ (p : c ≡ 0 → ⊥) (q : c ≡ 3 → ⊥) (r : c ≡ 4 → ⊥) (t : c ≡ 96 → ⊥) where
    pub below-calls : c < 18 → Unknown ≡ meaning_of c
    unfolding meaning_of
    below-calls h = simp (ne_eqb c 0 p, ne_eqb c 3 q, ne_eqb c 4 r, lt-leb 18 c h, lt-leb 66 c (omega arith), ne_eqb c 96 t)

    pub between-calls : 33 ≤ c → c < 66 → Unknown ≡ meaning_of c
    unfolding meaning_of
    between-calls l h = grind (arith, common_steps)

    pub above-calls : 81 ≤ c → Unknown ≡ meaning_of c
    unfolding meaning_of
    above-calls h = grind (arith, common_steps)
