-- Where refusals 4 to 6 find nothing, the nodes joined from all Begins together are, scheme by scheme, those joined from the Begin of the
-- scheme.
use Rattle.std.proofs.Common.{◌≡◌, refl, sym, ◌∙◌, ap, subst, Bool, true, false, ◌&&◌, not, List, [], ◌∷◌, ℕ, ◌≤◌, ◌<◌, zero-add, arith}
use Rattle.std.proofs.Common.{nat_eq, ◌==◌, find}
use Rattle.std.proofs.Common.{length, eqb-true, eq-eqb}
use Rattle.std.proofs.lemmas.Grind.{common_steps}
use Rattle.std.specs.List.{range_with_len}
use Rattle.words.specs.lists.Numbers.{count}
use Rattle.words.proofs.lists.Tests.{no_both, and-l, and-true, not-false, cases}
use Rattle.words.proofs.lists.Searches.{lowest-hit, lowest-past, any-false, highest-ge, some-both}
use Rattle.words.proofs.lists.Counts.{count-lowest, count-one}
use Rattle.words.proofs.lists.Ranges.{length-map-range, get_or-map-range}
use Rattle.words.specs.graph.Reach.{is_member, is_marked, reach, nodes_joined_from}
use Rattle.words.proofs.graph.Closure.{Closed, marked-below, reach-grow, reach-least, reach-closed, joined-first, joined-closed}
use Rattle.words.proofs.graph.Closure.{joined-least}
use Rattle.text.specs.frames.Frame.{size}
use Rattle.charts.specs.Chart.{Chart, scheme, is, is_of, schemes, node_of, begin}
use Rattle.charts.specs.Check.{has_bad_field, is_bad_scheme, arcs, is_bad_target, has_bad_arc, is_cut_off}
use Rattle.charts.specs.inner.Marks.{kind_marks}
use Rattle.chart_check.proofs.Found.{found-alike}
use Rattle.charts.proofs.Nodes.{field-scheme, good-target, member-first}
use Rattle.charts.proofs.Meaning.{member-only}
use Rattle.chart_check.specs.inner.CheckContracts.{Passed4To6}

module _ (c : Chart) (passed : Passed4To6 c) where
  -- ---- the Begin of a node's scheme
  one-begin : (v : ℕ) → v < size c → count (is_of c 0 (scheme c v)) 0 (size c) ≡ 1
  one-begin v l =
      let h : ℕ = scheme c v in
      let f : has_bad_field c v ≡ false = lowest-past (has_bad_field c) 0 (size c) (omega arith) v (omega arith) (omega arith) in
      let a : 1 ≤ scheme c v = (field-scheme c v f).0 in
      let b : scheme c v ≤ schemes c = highest-ge (scheme c) 0 (size c) v (omega arith) (omega arith) in
      let g : is_bad_scheme c h ≡ false = any-false (is_bad_scheme c) 1 (schemes c) passed.counts h a (omega arith) in
      let x : ℕ = count (is_of c 0 h) 0 (size c) in
      let y : ℕ = count (is_of c 1 h) 0 (size c) in
      eqb-true x 1 (and-l (x == 1) (y == 1) (not-false (x == 1 && y == 1) g))

  the-begin : (v : ℕ) → v < size c → (begin c (scheme c v) < size c) × (is_of c 0 (scheme c v) (begin c (scheme c v)) ≡ true)
  unfolding node_of
  the-begin v l = grind (arith, common_steps, count-lowest, lowest-hit, one-begin)

  own-begin : (v : ℕ) → v < size c → is c 0 v ≡ true → v ≡ begin c (scheme c v)
  own-begin v l i = count-one (is_of c 0 (scheme c v)) (size c) v (begin c (scheme c v)) (one-begin v l) l (the-begin v l).0
      (and-true (is c 0 v) (scheme c v == scheme c v) i (eq-eqb (scheme c v) (scheme c v) refl)) (the-begin v l).1

  same-scheme : (v u : ℕ) → v < size c → is_member u (arcs c v) ≡ true → scheme c u ≡ scheme c v
  same-scheme v u l s =
      let g : has_bad_arc c v ≡ false = lowest-past (has_bad_arc c) 0 (size c) (omega arith) v (omega arith) (omega arith) in
      let r = some-both (is_bad_target c v) (nat_eq u) (arcs c v) g s in
      ap (scheme c) (eqb-true u r.0 r.2) ∙ (good-target c v r.0 r.1).same

  -- ---- joined from all Begins, and from one
  abbrev joined : List Bool
  joined = reach (size c) (arcs c) (size c) (kind_marks c 0)

  abbrev from : ℕ → List Bool
  from h = nodes_joined_from (size c) (arcs c) (begin c h ∷ [])

  begins-long : length (kind_marks c 0) ≡ size c
  begins-long = length-map-range (is c 0) 0 (size c)

  begins-at : (v : ℕ) → v < size c → is_marked (kind_marks c 0) v ≡ is c 0 v
  begins-at v l = get_or-map-range (is c 0) false 0 (size c) v l ∙ ap (is c 0) (zero-add v)

  abbrev own : ℕ → Bool
  own v = is_marked (from (scheme c v)) v

  own-closed : Closed (size c) (arcs c) own
  own-closed = record {
    goes = λ u w lu lw t s. subst (λ (h : ℕ). is_marked (from h) w ≡ true) (sym (same-scheme u w lu s))
        ((joined-closed (size c) (arcs c) (begin c (scheme c u) ∷ [])).goes u w lu lw t s);
  }

  to-own : (v : ℕ) → is_marked joined v ≡ true → own v ≡ true
  to-own = reach-least (size c) (arcs c) own own-closed (size c) (kind_marks c 0)
      (λ v m. let l : v < size c = marked-below (size c) (kind_marks c 0) v begins-long m in
      joined-first (size c) (arcs c) (begin c (scheme c v) ∷ []) v l
      (subst (λ (b : ℕ). is_member v (b ∷ []) ≡ true) (own-begin v l (sym (begins-at v l) ∙ m)) (member-first v [])))

  from-own : (v : ℕ) → v < size c → own v ≡ true → is_marked joined v ≡ true
  from-own v l = joined-least (size c) (arcs c) (begin c (scheme c v) ∷ []) (is_marked joined)
      (reach-closed (size c) (arcs c) (kind_marks c 0) begins-long)
      (λ w lw s. reach-grow (size c) (arcs c) (size c) (kind_marks c 0) begins-long w
      (begins-at w lw ∙ subst (λ (b : ℕ). is c 0 b ≡ true) (sym (member-only w (begin c (scheme c v)) s))
      (and-l (is c 0 (begin c (scheme c v))) (scheme c (begin c (scheme c v)) == scheme c v) (the-begin v l).1))) v

  apart : (v : ℕ) → v < size c → not (is_marked joined v) ≡ is_cut_off c v
  apart v l = grind (arith, common_steps, cases, no_both, to-own, from-own)

  pub lowest-apart : (ms : List Bool) → ms ≡ joined
      → find (λ v. not (is_marked ms v)) (range_with_len 0 (size c)) ≡ find (is_cut_off c) (range_with_len 0 (size c))
  lowest-apart ms e = grind (arith, common_steps, found-alike, apart)
