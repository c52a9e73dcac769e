-- What is left out is in no accepted chart: a second Begin or End, an arc to a Begin, a condition's arc to itself, a node that no other
-- leads to.
use Rattle.std.proofs.Common.{ℕ, ◌+◌, ◌-◌, ◌≤◌, ◌<◌, Bool, true, false, ◌&&◌, not, ◌≡◌, refl, sym, ◌∙◌, ap, subst, []}
use Rattle.std.proofs.Common.{nat_eq, ◌==◌}
use Rattle.std.proofs.Common.{⊎_elim, arith, eqb-true, eq-eqb, ne_eqb}
use Rattle.std.proofs.Math.Decide.{ℕ_discrete}
use Rattle.std.proofs.lemmas.Grind.{common_steps}
use Rattle.words.specs.lists.Numbers.{any}
use Rattle.words.proofs.lists.Tests.{no_both, split, or-cases, or-none, or-true-l, or-true-r, and-l, and-r, and-true, not-true}
use Rattle.words.proofs.lists.Searches.{any-some, any-true, any-false, some-cons}
use Rattle.std.specs.List.{list_any}
use Rattle.words.specs.graph.Reach.{is_member}
use Rattle.words.specs.graph.Paths.{Arc, Path, here, on}
use Rattle.text.specs.frames.Frame.{size}
use Rattle.charts.specs.Chart.{Chart, kind, scheme, is, begin, end}
use Rattle.charts.specs.Check.{arcs, is_on_circle}
use Rattle.charts.proofs.Accepted.{SoundChart}
use Rattle.charts.proofs.Nodes.{TheNode, arc-end, begins, ends, arcs-end, arcs-one, arcs-condition, in-arcs0, in-arcs1, schemes-first}
use Rattle.charts.specs.Meaning.{ConditionCircle}
use Rattle.charts.proofs.Meaning.{member-only, circle-found, condition-arc, found-joined}
use Rattle.little_charts.specs.inner.Search.{has_kind, has_arc_to, is_repeat, is_clash, is_barred_node, is_lonely, missing_ends}
use Rattle.std.proofs.lemmas.Bool.Decides.{nat_tests}

-- tests that are joined, and equal numbers
ruleset tests_told = (and-true, or-true-l, or-true-r, or-cases, no_both, eqb-true, eq-eqb, ne_eqb)

some-none : (f : ℕ → Bool) → list_any f [] ≡ false
some-none f = refl

refuted : (b : Bool) → (b ≡ true → ⊥) → b ≡ false
refuted true f = absurd (f refl)
refuted false f = refl

-- an accepted chart with nodes of one scheme and of kinds 0 to 3
pub record Plain (c : Chart) : Type 0 where
  pub sound : SoundChart c
  pub some : 1 ≤ size c
  pub one : (v : ℕ) → v < size c → scheme c v ≡ 1
  pub kinds : (v : ℕ) → v < size c → kind c v ≤ 3

module _ (c : Chart) (p : Plain c) where
  abbrev s : SoundChart c
  s = p.sound

  of-kind : (k v : ℕ) → is c k v ≡ true → kind c v ≡ k
  of-kind k v e = eqb-true (kind c v) k e

  the-begin : TheNode c 0 1 (begin c 1)
  the-begin = begins c s 1 (omega arith) (schemes-first c s p.some)

  the-end : TheNode c 1 1 (end c 1)
  the-end = ends c s 1 (omega arith) (schemes-first c s p.some)

  one-begin : (u v : ℕ) → u < size c → v < size c → kind c u ≡ 0 → kind c v ≡ 0 → u ≡ v
  one-begin u v l m e f = the-begin.alone u l e (p.one u l) ∙ sym (the-begin.alone v m f (p.one v m))

  one-end : (u v : ℕ) → u < size c → v < size c → kind c u ≡ 1 → kind c v ≡ 1 → u ≡ v
  one-end u v l m e f = the-end.alone u l e (p.one u l) ∙ sym (the-end.alone v m f (p.one v m))

  -- an arc by its fields is one of the arcs
  leads-arc : (u t : ℕ) → u < size c → has_arc_to c u t ≡ true → is_member t (arcs c u) ≡ true
  leads-arc u t l e = grind (arith, common_steps, eq-eqb, in-arcs1, eqb-true, not-true, no_both, in-arcs0, or-cases, and-r, and-l, of-kind)

  -- and the other way round
  arc-leads : (u t : ℕ) → u < size c → is_member t (arcs c u) ≡ true → has_arc_to c u t ≡ true
  arc-leads u t l e =
      grind (arith, common_steps, nat_tests, tests_told, arcs-end, arcs-one, arcs-condition, member-only, nat_eq, some-cons, some-none)

  -- no arc leads to a Begin, none of a condition to itself
  not-entered : (u t : ℕ) → u < size c → has_arc_to c u t ≡ true → is c 0 t ≡ true → ⊥
  not-entered u t l e b = (arc-end c s u t l (leads-arc u t l e)).entered (of-kind 0 t b)

  no-circle : (v : ℕ) → v < size c → is c 3 v ≡ true → has_arc_to c v v ≡ true → ⊥
  no-circle v l k e =
      let a : Arc (size c) (arcs c) v v = record { start = l; end = l; leads = leads-arc v v l e } in
      let b : ConditionCircle c v = record { second = v; leaves = condition-arc c v v (of-kind 3 v k) a; back = here } in
      no_both (is_on_circle c v) (circle-found c v b) (s.no-circle v l)

  -- a path to another node ends with an arc from another node
  record Entry (v : ℕ) : Type 0 where
    node : ℕ
    inside : node < size c
    other : node ≡ v → ⊥
    leads : has_arc_to c node v ≡ true

  last-arc : (u v : ℕ) → (u ≡ v → ⊥) → Path (size c) (arcs c) u v → Entry v
  last-arc u v d here = absurd (d refl)
  last-arc u v d (on {v = w} q a) = go (ℕ_discrete w v) (λ f. last-arc u w f q)
    where
      go : Dec (w ≡ v) → ((u ≡ w → ⊥) → Entry w) → Entry v
      go (yes e) ih = subst Entry e (ih (λ f. d (f ∙ e)))
      go (no e) ih = record { node = w; inside = a.start; other = e; leads = arc-leads w v a.start a.leads }

  pub not-lonely : (v : ℕ) → v < size c → is_lonely c v ≡ false
  not-lonely v l = refuted (is_lonely c v) λ e.
      let others : ℕ → Bool = λ u. not (u == v) && has_arc_to c u v in
      let b : begin c (scheme c v) ≡ v → ⊥ = λ q. no_both (is c 0 v)
      (eq-eqb (kind c v) 0 (subst (λ (u : ℕ). kind c u ≡ 0) (sym (ap (begin c) (p.one v l)) ∙ q) the-begin.kinded))
      (not-true (is c 0 v) (and-l (not (is c 0 v)) (not (any others 0 (size c))) e)) in
      let x : Entry v = last-arc (begin c (scheme c v)) v b (found-joined c v (s.joined v l)).path in
      no_both (any others 0 (size c))
      (any-true others 0 (size c) x.node (omega arith) (omega (arith, x.inside))
      (and-true (not (x.node == v)) (has_arc_to c x.node v) (ap not (ne_eqb x.node v x.other)) x.leads))
      (not-true (any others 0 (size c)) (and-r (not (is c 0 v)) (not (any others 0 (size c))) e))

  pub not-barred : (v : ℕ) → v < size c → is_barred_node c v ≡ false
  unfolding is_barred_node
  not-barred v l = or-none (is_repeat c v) (any (is_clash c v) 0 (v + 1))
      (refuted (is_repeat c v) (λ e. grind (arith, common_steps, any-some, or-cases, and-r, and-l, of-kind, one-end, no-circle)))
      (refuted (any (is_clash c v) 0 (v + 1)) (λ e. grind (arith, common_steps, any-some, or-cases, and-r, and-l, not-entered)))

  pub no-second : (v : ℕ) → v < size c → has_kind c 0 v ≡ true → kind c v ≡ 0 → ⊥
  no-second v l h e = grind (arith, common_steps, any-some, of-kind, one-begin)

  -- a kind that no node below v has stands at v or above
  above : (k v u : ℕ) → has_kind c k v ≡ false → kind c u ≡ k → v ≤ u
  above k v u h e = ⊎_elim
      (λ (l : u < v). no_both (is c k u) (eq-eqb (kind c u) k e) (any-false (is c k) 0 v h u (omega arith) (omega arith)))
      (λ (l : v ≤ u). l) (split u v)

  pub needed : (v : ℕ) → v < size c → size c - v ≤ missing_ends c v → 2 ≤ kind c v → ⊥
  needed v l m k = grind (arith, common_steps, the-begin, the-end, above)
