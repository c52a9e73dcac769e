-- Marks on n nodes that spread over arcs; `arcs u` lists the nodes that the arcs of u lead to.
use Rattle.std.specs.Prelude.{ℕ, zero, suc, Bool, false, ◌&&◌, ◌||◌, List, map, nat_eq, slice_index_or}
use Rattle.words.specs.lists.Numbers.{range, any}
use Rattle.std.specs.List.{list_any}

abbrev pub is_member : ℕ → List ℕ → Bool
is_member v vs = list_any (nat_eq v) vs

abbrev pub is_marked : List Bool → ℕ → Bool
is_marked ms v = slice_index_or ms v false

-- just these nodes
abbrev pub only_marks : ℕ → List ℕ → List Bool
only_marks n vs = map (λ v. is_member v vs) (range 0 n)

-- the nodes marked, and those that an arc of a marked one leads to
abbrev pub spread : ℕ → (ℕ → List ℕ) → List Bool → List Bool
spread n arcs ms = map (λ v. is_marked ms v || any (λ u. is_marked ms u && is_member v (arcs u)) 0 n) (range 0 n)

-- after k rounds
unfoldable pub reach : ℕ → (ℕ → List ℕ) → ℕ → List Bool → List Bool
reach n arcs zero ms = ms
reach n arcs (suc k) ms = spread n arcs (reach n arcs k ms)

-- the nodes that some arcs join from one of these; n rounds are enough
abbrev pub nodes_joined_from : ℕ → (ℕ → List ℕ) → List ℕ → List Bool
nodes_joined_from n arcs vs = reach n arcs n (only_marks n vs)
