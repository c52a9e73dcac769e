-- Arcs and paths of them, between nodes below n.
use Rattle.std.specs.Prelude.{ℕ, ◌<◌, true, ◌≡◌, List}
use Rattle.words.specs.graph.Reach.{is_member}

-- an arc from node u to node v, both below n
pub record Arc (n : ℕ) (arcs : ℕ → List ℕ) (u v : ℕ) : Type 0 where
  pub start : u < n
  pub end : v < n
  pub leads : is_member v (arcs u) ≡ true

-- a path of arcs from node u: none, or a path and one arc more
pub data Path (n : ℕ) (arcs : ℕ → List ℕ) (u : ℕ) : ℕ → Type 0 where
  here : Path n arcs u u
  on : {v w : ℕ} → Path n arcs u v → Arc n arcs v w → Path n arcs u w

-- a path from one of these nodes
pub record PathFrom (n : ℕ) (arcs : ℕ → List ℕ) (vs : List ℕ) (v : ℕ) : Type 0 where
  pub first : ℕ
  pub inside : first < n
  pub among : is_member first vs ≡ true
  pub path : Path n arcs first v
