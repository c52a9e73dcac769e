-- What marks mean, with no rounds in it: a node is marked exactly where a path of arcs leads to it.
use Rattle.std.proofs.Common.{◌≡◌, sym, ◌∙◌, ◌⊎◌, inl, inr, true, List, ℕ, zero, suc, ◌<◌}
use Rattle.words.specs.graph.Reach.{is_marked, only_marks, reach, nodes_joined_from}
use Rattle.words.specs.graph.Paths.{Arc, Path, here, on, PathFrom}
use Rattle.words.proofs.graph.Closure.{marked-below, only-long, only-at, Before, spread-back, joined-first, joined-closed}

module _ (n : ℕ) (arcs : ℕ → List ℕ) (vs : List ℕ) where
  longer : {v w : ℕ} → PathFrom n arcs vs v → Arc n arcs v w → PathFrom n arcs vs w
  longer p a = record { first = p.first; inside = p.inside; among = p.among; path = on p.path a }

  rounds-path : (k v : ℕ) → is_marked (reach n arcs k (only_marks n vs)) v ≡ true → PathFrom n arcs vs v
  unfolding reach
  rounds-path zero v m =
      let l : v < n = marked-below n (only_marks n vs) v (only-long n vs) m in
      record { first = v; inside = l; among = sym (only-at n vs v l) ∙ m; path = here }
  rounds-path (suc k) v m = go (spread-back n arcs (reach n arcs k (only_marks n vs)) v m) (rounds-path k)
    where
      go : (v < n) × ((is_marked (reach n arcs k (only_marks n vs)) v ≡ true) ⊎ Before n arcs (reach n arcs k (only_marks n vs)) v)
          → ((u : ℕ) → is_marked (reach n arcs k (only_marks n vs)) u ≡ true → PathFrom n arcs vs u) → PathFrom n arcs vs v
      go (l, inl x) ih = ih v x
      go (l, inr x) ih = longer (ih x.node x.was) (record { start = x.inside; end = l; leads = x.leads })

  pub joined-path : (v : ℕ) → is_marked (nodes_joined_from n arcs vs) v ≡ true → PathFrom n arcs vs v
  joined-path = rounds-path n

  along : {u v : ℕ} → Path n arcs u v → is_marked (nodes_joined_from n arcs vs) u ≡ true → is_marked (nodes_joined_from n arcs vs) v ≡ true
  along here m = m
  along (on {v} {w} p a) m = (joined-closed n arcs vs).goes v w a.start a.end (along p m) a.leads

  pub path-joined : (v : ℕ) → PathFrom n arcs vs v → is_marked (nodes_joined_from n arcs vs) v ≡ true
  path-joined v p = along p.path (joined-first n arcs vs p.first p.inside p.among)
