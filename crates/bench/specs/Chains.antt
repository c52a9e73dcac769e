-- Cases of places needed, of charts as records: a chain, circles in reach of scheme 1, and one out of its reach.
use Rattle.std.specs.Prelude.{ℕ, true, false, ◌≡◌, List, [], ◌∷◌, replicate, flat_map}
use Rattle.charts.specs.Chart.{Chart}
use Rattle.places.specs.chains.Calls.{is_circular, places}

-- kind, scheme, scheme called, next nodes
abbrev pub node : ℕ → ℕ → ℕ → ℕ → ℕ → List ℕ
node k h a u₀ u₁ = k ∷ h ∷ a ∷ u₀ ∷ u₁ ∷ replicate 5 0

abbrev pub chart : List (List ℕ) → Chart
chart = flat_map (λ r. r)

pub record ChainCases : Type 0 where
  -- 1 calls 2 and 3, and a function of 2 calls 3
  pub three-places : let c = chart (
      node 0 1 0 1 0 ∷ node 2 1 2 2 0 ∷ node 2 1 3 3 0 ∷ node 1 1 0 0 0 ∷ node 0 2 0 5 0 ∷ node 4 2 3 6 6 ∷ node 1 2 0 0 0
      ∷ node 0 3 0 8 0 ∷ node 1 3 0 0 0 ∷ []) in (is_circular c ≡ false) × (places c ≡ 3)
  -- 1 calls 2, and 2 calls itself
  pub itself-circular : is_circular (chart (
      node 0 1 0 1 0 ∷ node 2 1 2 2 0 ∷ node 1 1 0 0 0 ∷ node 0 2 0 4 0 ∷ node 2 2 2 5 0 ∷ node 1 2 0 0 0 ∷ [])) ≡ true
  -- 1 calls 2, 2 calls 3, and 3 calls 2
  pub around-circular : is_circular (chart (
      node 0 1 0 1 0 ∷ node 2 1 2 2 0 ∷ node 1 1 0 0 0 ∷ node 0 2 0 4 0 ∷ node 2 2 3 5 0 ∷ node 1 2 0 0 0
      ∷ node 0 3 0 7 0 ∷ node 4 3 2 8 8 ∷ node 1 3 0 0 0 ∷ [])) ≡ true
  -- 2 calls itself, but nobody calls it
  pub apart-places : let c = chart (node 0 1 0 1 0 ∷ node 1 1 0 0 0 ∷ node 0 2 0 3 0 ∷ node 2 2 2 4 0 ∷ node 1 2 0 0 0 ∷ []) in
      (is_circular c ≡ false) × (places c ≡ 1)
