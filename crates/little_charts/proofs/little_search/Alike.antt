-- What is tried of the first records is read from them alone.
use Rattle.std.proofs.Common.{ℕ, ◌+◌, ◌*◌, ◌≤◌, ◌<◌, ◌≡◌, sym, ap, List, ◌++◌, arith, length, ◌==◌}
use Rattle.std.proofs.Math.ListN.{get_or-append}
use Rattle.std.proofs.lemmas.Grind.{common_steps}
use Rattle.words.specs.lists.Numbers.{any}
use Rattle.words.proofs.lists.Searches.{any-alike}
use Rattle.text.specs.frames.Frame.{field}
use Rattle.charts.specs.Chart.{Chart, is}
use Rattle.little_charts.specs.inner.Search.{has_kind, has_arc_to, is_clash, is_barred_node, missing_ends}

-- the first v nodes have the same fields
pub record SameFields (c d : Chart) (v : ℕ) : Type 0 where
  pub same : (u k : ℕ) → u < v → k < 10 → field c u k ≡ field d u k

module _ (c d : Chart) where
  pub has-alike : (k v : ℕ) → SameFields c d v → has_kind c k v ≡ has_kind d k v
  has-alike k v a = any-alike (is c k) (is d k) 0 v (λ u x y. ap (λ (z : ℕ). z == k) (a.same u 0 (omega arith) (omega arith)))

  leads-alike : (u t v : ℕ) → u < v → SameFields c d v → has_arc_to c u t ≡ has_arc_to d u t
  leads-alike u t v l a = grind (arith, common_steps)

  pub barred-alike : (v : ℕ) → SameFields c d (v + 1) → is_barred_node c v ≡ is_barred_node d v
  unfolding is_barred_node
  barred-alike v a =
      let e : field c v 0 ≡ field d v 0 = a.same v 0 (omega arith) (omega arith) in
      let h : has_kind c 1 v ≡ has_kind d 1 v = has-alike 1 v (record { same = λ u k l m. a.same u k (omega arith) m }) in
      let s : has_arc_to c v v ≡ has_arc_to d v v = leads-alike v v (v + 1) (omega arith) a in
      let k : any (is_clash c v) 0 (v + 1) ≡ any (is_clash d v) 0 (v + 1) = any-alike (is_clash c v) (is_clash d v) 0 (v + 1) (λ u x y.
      let f : field c u 0 ≡ field d u 0 = a.same u 0 (omega arith) (omega arith) in
      let g : has_arc_to c u v ≡ has_arc_to d u v = leads-alike u v (v + 1) (omega arith) a in
      let i : has_arc_to c v u ≡ has_arc_to d v u = leads-alike v u (v + 1) (omega arith) a in
      cc) in
      cc

  pub missing-alike : (v : ℕ) → SameFields c d v → missing_ends c v ≡ missing_ends d v
  missing-alike v a = grind (arith, common_steps, has-alike)

-- a list's front and the whole
pub front-alike : (xs ys : List ℕ) (v : ℕ) → 10 * v ≤ length xs → SameFields xs (xs ++ ys) v
front-alike xs ys v l = record { same = λ u k a b. sym (get_or-append xs ys 0 (10 * u + k) (omega arith)) }
