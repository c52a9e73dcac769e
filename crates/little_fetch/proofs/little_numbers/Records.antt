-- Node records by number, and the numbers to try, by the tests that the code makes.
use Rattle.std.proofs.Common.{ℕ, ◌+◌, ◌*◌, ◌-◌, ◌/◌, ◌%◌, ◌≤◌, ◌<◌, ◌≡◌, sym, ◌∙◌, List, [], ◌∷◌, nat_lt, ◌==◌}
use Rattle.std.proofs.Common.{lt-ltb, le-ltb, eq-eqb, arith}
use Rattle.std.proofs.lemmas.Grind.{common_steps}
use Rattle.std.proofs.lemmas.Bool.{cond-true, cond-false}
use Rattle.little_charts.specs.inner.Search.{node_at}

-- ---- arcs are small

module _ (n i : ℕ) where
  pub at-begin : i < n → ◌≡◌ {A = List ℕ} (0 ∷ 1 ∷ 0 ∷ i ∷ 0 ∷ 0 ∷ 0 ∷ 0 ∷ 0 ∷ 0 ∷ []) (node_at n i)
  unfolding node_at
  at-begin l = sym (cond-true (nat_lt i n) _ _ (lt-ltb i n l))

  pub at-end : n ≤ i → i ≡ n → ◌≡◌ {A = List ℕ} (1 ∷ 1 ∷ 0 ∷ 0 ∷ 0 ∷ 0 ∷ 0 ∷ 0 ∷ 0 ∷ 0 ∷ []) (node_at n i)
  unfolding node_at
  at-end l e = sym (cond-false (nat_lt i n) _ _ (le-ltb i n l) ∙ cond-true (i == n) _ _ (eq-eqb i n e))

  module _ (l : n ≤ i) (d : i ≡ n → ⊥) where
    pub at-operation : i < 3 * n + 1 → let j = i - (n + 1) in
        ◌≡◌ {A = List ℕ} (2 ∷ 1 ∷ 0 ∷ j / 2 ∷ 0 ∷ 0 ∷ 0 ∷ 0 ∷ 0 ∷ j % 2 ∷ []) (node_at n i)
    unfolding node_at
    at-operation m = grind (arith, common_steps)

    pub at-condition : 3 * n + 1 ≤ i → let j = i - (3 * n + 1) in
        ◌≡◌ {A = List ℕ} (3 ∷ 1 ∷ 0 ∷ j / n ∷ j % n ∷ 0 ∷ 0 ∷ 0 ∷ 0 ∷ 0 ∷ []) (node_at n i)
    unfolding node_at
    at-condition m = grind (arith, common_steps)

pub ruleset node_cases = (at-begin, at-end, at-operation, at-condition)
