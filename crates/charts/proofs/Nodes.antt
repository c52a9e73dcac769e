-- What the tests give of the nodes of a sound chart: ranges of fields, Begins and Ends, arcs, calls.
use Rattle.std.proofs.Common.{if◌then◌else◌, ◌≡◌, refl, ◌∙◌, ap, subst, ◌⊎◌, Bool, true, false, not, List, [], ◌∷◌, ℕ, zero, suc, ◌≤◌, ◌<◌, nat_lt, nat_eq, ◌==◌}
use Rattle.std.proofs.Common.{arith, ltb-false, eqb-true, eq-eqb}
use Rattle.std.proofs.Math.Decide.{dec_le}
use borrow.Author.Tests.{eqb-false}
use Rattle.std.proofs.lemmas.Grind.{common_steps}
use Rattle.words.specs.lists.Numbers.{lowest, any, count}
use Rattle.std.proofs.lemmas.Bool.{cond-true}
use Rattle.words.proofs.lists.Tests.{no_both, or-l, or-r, or-true-l, or-true-r, and-l, and-r, and-true}
use Rattle.words.proofs.lists.Searches.{lowest-hit, highest-ge, highest-le, highest-of, any-false, some-cons, some-both}
use Rattle.words.proofs.lists.Counts.{count-lowest, count-one}
use Rattle.words.specs.graph.Reach.{is_member}
use Rattle.text.specs.frames.Frame.{size}
use Rattle.charts.specs.Chart.{Chart, kind, scheme, argument, next0, next1, result, is, is_of, is_handler_mark, handler_at, handler}
use Rattle.charts.specs.Chart.{schemes, node_of, begin, end}
use Rattle.charts.specs.Layout.{kind_of}
use Rattle.charts.specs.Check.{is_filled_from, has_bad_use, has_bad_field, arcs_as, arcs, is_bad_target}
use Rattle.charts.proofs.Accepted.{SoundChart}

-- an arc may lead to node u in scheme h
pub record Target (c : Chart) (h u : ℕ) : Type 0 where
  pub inside : u < size c
  pub same : scheme c u ≡ h
  pub entered : kind c u ≡ 0 → ⊥

-- the one node of kind k in scheme h
pub record TheNode (c : Chart) (k h v : ℕ) : Type 0 where
  pub inside : v < size c
  pub kinded : kind c v ≡ k
  pub same : scheme c v ≡ h
  pub alone : (u : ℕ) → u < size c → kind c u ≡ k → scheme c u ≡ h → u ≡ v

-- ---- fields: 4
used-kind : (c : Chart) (v k : ℕ) → has_bad_use c v (kind_of k) ≡ false → k ≤ 4
used-kind c v zero e = omega arith
used-kind c v (suc zero) e = omega arith
used-kind c v (suc (suc zero)) e = omega arith
used-kind c v (suc (suc (suc zero))) e = omega arith
used-kind c v (suc (suc (suc (suc zero)))) e = omega arith
used-kind c v (suc (suc (suc (suc (suc k))))) e = no_both true refl e

module _ (c : Chart) (v : ℕ) (e : has_bad_field c v ≡ false) where
  fields : ((scheme c v == 0) ≡ false) × (nat_lt 16 (scheme c v) ≡ false) × (has_bad_use c v (kind_of (kind c v)) ≡ false)
  unfolding has_bad_field
  fields = grind (arith, common_steps)

  use-of : (k : ℕ) → kind c v ≡ k → has_bad_use c v (kind_of k) ≡ false
  use-of k q = subst (λ (k : ℕ). has_bad_use c v (kind_of k) ≡ false) q fields.2

  pub field-kind : kind c v ≤ 4
  field-kind = used-kind c v (kind c v) fields.2

  pub field-scheme : (1 ≤ scheme c v) × (scheme c v ≤ 16)
  field-scheme = let n : scheme c v ≡ 0 → ⊥ = eqb-false (scheme c v) 0 fields.0 in (omega arith, ltb-false 16 (scheme c v) fields.1)

  pub field-condition : kind c v ≡ 3 → argument c v ≤ 15
  field-condition k = ltb-false 15 (argument c v) (or-l (nat_lt 15 (argument c v)) (is_filled_from c v 5) (use-of 3 k))

  pub field-result : kind c v ≡ 2 → result c v ≤ 2
  field-result k = ltb-false 2 (result c v) (or-r (not (next1 c v == 0)) (nat_lt 2 (result c v)) (use-of 2 k))

-- ---- arcs: 6
-- a kind outside 3 to 4
pub outside : (k : ℕ) → (k < 3) ⊎ (5 ≤ k) → (k ≡ 3 → ⊥) × (k ≡ 4 → ⊥)
outside k o = grind (arith, common_steps)

pub good-target : (c : Chart) (v u : ℕ) → is_bad_target c v u ≡ false → Target c (scheme c v) u
good-target c v u e = grind (arith, common_steps)

pub member-first : (x : ℕ) (xs : List ℕ) → is_member x (x ∷ xs) ≡ true
member-first x xs = some-cons (nat_eq x) x xs ∙ or-true-l (x == x) (is_member x xs) (eq-eqb x x refl)

pub member-second : (x y : ℕ) (xs : List ℕ) → is_member y (x ∷ y ∷ xs) ≡ true
member-second x y xs = some-cons (nat_eq y) x (y ∷ xs) ∙ or-true-r (y == x) (is_member y (y ∷ xs)) (member-first y xs)

-- the arcs of a node by its kind
arcs-by : (c : Chart) (v k : ℕ) → kind c v ≡ k → arcs c v ≡ arcs_as c v (kind_of k)
arcs-by c v k e = ap (λ (k : ℕ). arcs_as c v (kind_of k)) e

pub arcs-end : (c : Chart) (v : ℕ) → kind c v ≡ 1 → arcs c v ≡ []
arcs-end c v e = arcs-by c v 1 e

pub arcs-one : (c : Chart) (v : ℕ) → (kind c v ≡ 1 → ⊥) → (kind c v ≡ 3 → ⊥) → (kind c v ≡ 4 → ⊥) → arcs c v ≡ next0 c v ∷ []
arcs-one c v = grind (arith, common_steps)

pub arcs-condition : (c : Chart) (v : ℕ) → kind c v ≡ 3 → arcs c v ≡ next0 c v ∷ next1 c v ∷ []
arcs-condition c v e = arcs-by c v 3 e

pub arcs-function : (c : Chart) (v : ℕ) → kind c v ≡ 4 → arcs c v ≡ next0 c v ∷ next1 c v ∷ []
arcs-function c v e = arcs-by c v 4 e

module _ (c : Chart) (v : ℕ) where
  pub two-arcs : 3 ≤ kind c v → kind c v ≤ 4 → arcs c v ≡ next0 c v ∷ next1 c v ∷ []
  two-arcs a b = grind (arith, common_steps)

  pub in-arcs0 : (kind c v ≡ 1 → ⊥) → kind c v ≤ 4 → is_member (next0 c v) (arcs c v) ≡ true
  in-arcs0 n m = grind (arith, common_steps, dec_le, member-first, arcs-one, two-arcs)

  pub in-arcs1 : 3 ≤ kind c v → kind c v ≤ 4 → is_member (next1 c v) (arcs c v) ≡ true
  in-arcs1 n m = ap (is_member (next1 c v)) (two-arcs n m) ∙ member-second (next0 c v) (next1 c v) []

module _ (c : Chart) (a : SoundChart c) where
  pub kinds : (v : ℕ) → v < size c → kind c v ≤ 4
  kinds v l = field-kind c v (a.good-field v l)

  pub owned : (v : ℕ) → v < size c → (1 ≤ scheme c v) × (scheme c v ≤ schemes c)
  owned v l = ((field-scheme c v (a.good-field v l)).0, highest-ge (scheme c) 0 (size c) v (omega arith) (omega arith))

  pub schemes-most : schemes c ≤ 16
  schemes-most = highest-le (scheme c) 16 0 (size c) (λ v x y. (field-scheme c v (a.good-field v (omega arith))).1)

  pub schemes-first : 1 ≤ size c → 1 ≤ schemes c
  schemes-first s = omega (arith, (owned 0 (omega arith)).0, (owned 0 (omega arith)).1)

  pub conditions : (v : ℕ) → v < size c → kind c v ≡ 3 → argument c v ≤ 15
  conditions v l k = field-condition c v (a.good-field v l) k

  pub results : (v : ℕ) → v < size c → kind c v ≡ 2 → result c v ≤ 2
  results v l k = field-result c v (a.good-field v l) k

  -- ---- each scheme has one Begin and one End: 5
  the-node : (k h : ℕ) → count (is_of c k h) 0 (size c) ≡ 1 → TheNode c k h (node_of c k h)
  unfolding node_of
  the-node k h e =
      let p : ℕ → Bool = is_of c k h in
      let v : ℕ = lowest p 0 (size c) in
      let l : v < size c = count-lowest p (size c) (omega (arith, e)) in
      let t : p v ≡ true = lowest-hit p 0 (size c) (omega arith) in
      record {
        inside = l;
        kinded = eqb-true (kind c v) k (and-l (is c k v) (scheme c v == h) t);
        same = eqb-true (scheme c v) h (and-r (is c k v) (scheme c v == h) t);
        alone = λ u lu x y. count-one p (size c) u v e lu l
            (and-true (is c k u) (scheme c u == h) (eq-eqb (kind c u) k x) (eq-eqb (scheme c u) h y)) t;
      }

  ones : (h : ℕ) → 1 ≤ h → h ≤ schemes c → (count (is_of c 0 h) 0 (size c) ≡ 1) × (count (is_of c 1 h) 0 (size c) ≡ 1)
  ones h l m = grind (arith, common_steps)

  pub begins : (h : ℕ) → 1 ≤ h → h ≤ schemes c → TheNode c 0 h (begin c h)
  begins h l m = the-node 0 h (ones h l m).0

  pub ends : (h : ℕ) → 1 ≤ h → h ≤ schemes c → TheNode c 1 h (end c h)
  ends h l m = the-node 1 h (ones h l m).1

  -- ---- the handler: 19
  marked-deep : (v : ℕ) → v < size c → is_handler_mark c v ≡ true → 2 ≤ scheme c v
  marked-deep v l e =
      let p : ℕ → Bool = λ u. handler_at c u == 1 in
      let f : p v ≡ false =
      any-false p 0 (size c) (or-l (any p 0 (size c)) (nat_lt 1 (count (is_handler_mark c) 0 (size c))) a.good-marks)
      v (omega arith) (omega arith) in
      let n : handler_at c v ≡ 1 → ⊥ = eqb-false (handler_at c v) 1 f in
      omega (arith, owned v l, cond-true (is_handler_mark c v) (scheme c v) 0 e)

  pub handled : (handler c ≡ 0 → ⊥) → (2 ≤ handler c) × (handler c ≤ schemes c)
  unfolding handler
  handled = highest-of (λ (h : ℕ). (h ≡ 0 → ⊥) → (2 ≤ h) × (h ≤ schemes c)) (handler_at c) 0 (size c)
      (λ n. absurd (n refl)) (λ v x y. go v (omega arith) (is_handler_mark c v) refl)
    where
      go : (v : ℕ) → v < size c → (t : Bool) → is_handler_mark c v ≡ t
          → ((if t then scheme c v else 0) ≡ 0 → ⊥) → (2 ≤ (if t then scheme c v else 0)) × ((if t then scheme c v else 0) ≤ schemes c)
      go v l true e n = (marked-deep v l e, (owned v l).1)
      go v l false e n = absurd (n refl)

  -- ---- arcs: 6
  pub arc-end : (v u : ℕ) → v < size c → is_member u (arcs c v) ≡ true → Target c (scheme c v) u
  arc-end v u l s = grind (arith, common_steps, some-both, eqb-true, good-target)

  pub arc0 : (v : ℕ) → v < size c → (kind c v ≡ 1 → ⊥) → Target c (scheme c v) (next0 c v)
  arc0 v l n = arc-end v (next0 c v) l (in-arcs0 c v n (kinds v l))

  pub arc1 : (v : ℕ) → v < size c → 3 ≤ kind c v → Target c (scheme c v) (next1 c v)
  arc1 v l n = arc-end v (next1 c v) l (in-arcs1 c v n (kinds v l))

  -- ---- calls: 7

  pub calls : (v : ℕ) → v < size c → kind c v ≡ 2 → (argument c v ≡ 0 → ⊥) → (2 ≤ argument c v) × (argument c v ≤ schemes c)
  calls v l k n = grind (arith, common_steps)

  pub functions : (v : ℕ) → v < size c → kind c v ≡ 4 → (2 ≤ argument c v) × (argument c v ≤ schemes c)
  functions v l k = grind (arith, common_steps)
