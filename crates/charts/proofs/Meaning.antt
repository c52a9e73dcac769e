-- What refusals 8 and 9 mean, with no marks in it: a circle of conditions, and a path from a scheme's Begin.
use Rattle.std.proofs.Common.{◌≡◌, refl, ◌∙◌, ap, true, false, [], ◌∷◌, ℕ, eqb-true, arith}
use Rattle.std.proofs.lemmas.Grind.{common_steps}
use Rattle.std.proofs.lemmas.Bool.{cond-true, cond-false}
use Rattle.words.proofs.lists.Tests.{no_both, or-cases, and-l, and-r, and-true, not-false, cases}
use Rattle.words.proofs.lists.Searches.{some-cons}
use Rattle.words.specs.graph.Reach.{is_member, is_marked, nodes_joined_from}
use Rattle.words.proofs.graph.Closure.{joined-below}
use Rattle.words.specs.graph.Paths.{Arc, PathFrom}
use Rattle.words.proofs.graph.Paths.{joined-path, path-joined}
use Rattle.text.specs.frames.Frame.{size}
use Rattle.charts.specs.Chart.{Chart, kind, scheme, is, begin}
use Rattle.charts.specs.Check.{arcs, condition_arcs, is_on_circle, is_cut_off}
use Rattle.charts.specs.Meaning.{ConditionCircle, JoinedNode, CircleMeans, CutOffMeans}
use Rattle.charts.proofs.Nodes.{member-first}

member-none : (v : ℕ) → is_member v [] ≡ false
member-none v = refl

pub member-only : (v u : ℕ) → is_member v (u ∷ []) ≡ true → v ≡ u
member-only v u e = grind (arith, common_steps, or-cases, some-cons, eqb-true, no_both, member-none)

-- ---- arcs of conditions are the arcs that leave a condition
module _ (c : Chart) where
  pub condition-arcs : (v : ℕ) → is c 3 v ≡ true → condition_arcs c v ≡ arcs c v
  condition-arcs v i = cond-true (is c 3 v) (arcs c v) [] i

  pub no-condition-arcs : (v : ℕ) → is c 3 v ≡ false → condition_arcs c v ≡ []
  no-condition-arcs v i = cond-false (is c 3 v) (arcs c v) [] i

  pub leaves-condition : (v u : ℕ) → is_member u (condition_arcs c v) ≡ true → is c 3 v ≡ true
  leaves-condition v u s = grind (arith, common_steps, cases, no_both, member-none, no-condition-arcs)

  pub condition-arc : (v u : ℕ) → kind c v ≡ 3 → Arc (size c) (arcs c) v u → Arc (size c) (condition_arcs c) v u
  condition-arc v u k a = grind (arith, common_steps)

-- ---- 8
pub found-circle : (c : Chart) (v : ℕ) → is_on_circle c v ≡ true → ConditionCircle c v
found-circle c v e =
    let ahead = nodes_joined_from (size c) (condition_arcs c) (arcs c v) in
    let i : is c 3 v ≡ true = and-l (is c 3 v) (is_marked ahead v) e in
    let m : is_marked ahead v ≡ true = and-r (is c 3 v) (is_marked ahead v) e in
    let p : PathFrom (size c) (condition_arcs c) (arcs c v) v = joined-path (size c) (condition_arcs c) (arcs c v) v m in
    record {
      second = p.first;
      leaves = record {
        start = joined-below (size c) (condition_arcs c) (arcs c v) v m;
        end = p.inside;
        leads = ap (is_member p.first) (condition-arcs c v i) ∙ p.among;
      };
      back = p.path;
    }

pub circle-found : (c : Chart) (v : ℕ) → ConditionCircle c v → is_on_circle c v ≡ true
circle-found c v k = grind (arith, common_steps, path-joined, and-true, condition-arcs, leaves-condition)

-- ---- 9
pub joined-found : (c : Chart) (v : ℕ) → JoinedNode c v → is_cut_off c v ≡ false
joined-found c v j = grind (arith, common_steps, path-joined, member-first)

pub found-joined : (c : Chart) (v : ℕ) → is_cut_off c v ≡ false → JoinedNode c v
found-joined c v e =
    let b : ℕ = begin c (scheme c v) in
    let p : PathFrom (size c) (arcs c) (b ∷ []) v =
    joined-path (size c) (arcs c) (b ∷ []) v (not-false (is_marked (nodes_joined_from (size c) (arcs c) (b ∷ [])) v) e) in
    let q : p.first ≡ b = member-only p.first b p.among in
    grind (arith, common_steps)

-- ---- both ways
pub circle-means : CircleMeans
circle-means c v = (found-circle c v, circle-found c v)

pub cut-off-means : CutOffMeans
cut-off-means c v = (found-joined c v, joined-found c v)

pub ruleset circles_and_paths_decide_8_and_9 = (circle-means, cut-off-means)
