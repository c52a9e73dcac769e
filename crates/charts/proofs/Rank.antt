-- The rank of a node by arcs of conditions: it falls along each arc of a condition of a sound chart.
use Rattle.std.proofs.Common.{◌≡◌, ◌∙◌, ap, true, List, ℕ, ◌≤◌, ◌<◌, arith, eq-eqb}
use Rattle.words.proofs.lists.Tests.{and-false}
use Rattle.words.specs.graph.Reach.{is_member, is_marked, nodes_joined_from}
use Rattle.text.specs.frames.Frame.{size}
use Rattle.charts.specs.Chart.{Chart, kind, next0, next1, is}
use Rattle.charts.specs.Check.{arcs, condition_arcs}
use Rattle.charts.proofs.Accepted.{SoundChart}
use Rattle.charts.proofs.Nodes.{arc-end, in-arcs0, in-arcs1}
use Rattle.charts.proofs.Meaning.{condition-arcs}
use Rattle.words.proofs.graph.Rank as joined

abbrev pub rank : Chart → ℕ → ℕ
rank c v = joined.rank (size c) (condition_arcs c) v

pub rank-le : (c : Chart) (v : ℕ) → rank c v ≤ size c
rank-le c v = joined.rank-le (size c) (condition_arcs c) v

pub rank-some : (c : Chart) (v : ℕ) → v < size c → 1 ≤ rank c v
rank-some c v l = joined.rank-some (size c) (condition_arcs c) v l

module _ (c : Chart) (a : SoundChart c) (v : ℕ) (l : v < size c) (k : kind c v ≡ 3) where
  pub rank-falls : (u : ℕ) → is_member u (arcs c v) ≡ true → rank c u < rank c v
  rank-falls u s =
      let i : is c 3 v ≡ true = eq-eqb (kind c v) 3 k in
      let e : condition_arcs c v ≡ arcs c v = condition-arcs c v i in
      joined.rank-falls (size c) (condition_arcs c) v u l (arc-end c a v u l s).inside (ap (is_member u) e ∙ s)
      (ap (λ (us : List ℕ). is_marked (nodes_joined_from (size c) (condition_arcs c) us) v) e
      ∙ and-false (is c 3 v) (is_marked (nodes_joined_from (size c) (condition_arcs c) (arcs c v)) v) (a.no-circle v l) i)

  pub rank-falls0 : rank c (next0 c v) < rank c v
  rank-falls0 = rank-falls (next0 c v) (in-arcs0 c v (λ q. omega arith) (omega arith))

  pub rank-falls1 : rank c (next1 c v) < rank c v
  rank-falls1 = rank-falls (next1 c v) (in-arcs1 c v (omega arith) (omega arith))
