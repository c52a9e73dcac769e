-- The arcs that marks follow, case by case, and the marks of Begins and of cut-off nodes.
use Rattle.std.proofs.Common.{◌≡◌, refl, sym, ◌∙◌, ap, subst, Bool, false, not, List, [], ◌∷◌, ◌++◌, map, ℕ, zero, ◌==◌, slice_index_or}
use Rattle.std.proofs.Common.{None, find, lt-ltb, le-ltb}
use Rattle.std.proofs.Common.{suc, ◌+◌, ◌≤◌, ◌<◌, zero-add, add-one, arith, length, set, take, drop, replicate, drop-cons}
use Rattle.std.proofs.Math.ListN.{length-replicate}
use Rattle.std.proofs.Math.Seq.{set_at, append_snoc}
use Rattle.std.proofs.lemmas.Grind.{common_steps}
use Rattle.std.specs.List.{range_with_len}
use Rattle.words.specs.lists.Numbers.{range}
use Rattle.words.proofs.lists.Searches.{lowest-none}
use Rattle.words.proofs.lists.Ranges.{length-map-range, map-range-snoc}
use Rattle.words.specs.graph.Reach.{is_marked, only_marks, reach, nodes_joined_from}
use Rattle.words.specs.inner.Listed.{many, Listing, listing, enlist_all, Listed}
use Rattle.words.proofs.graph.Marking.{full-marked, Joining}
use Rattle.words.proofs.graph.Lists.{listed-none, list-few, Followed}
use Rattle.words.proofs.graph.Enlisted.{Enlisted, enlisted-all}
use Rattle.text.specs.frames.Frame.{size}
use Rattle.charts.specs.Chart.{Chart, kind, next0, next1, is}
use Rattle.charts.specs.Check.{arcs, condition_arcs, is_on_circle}
use Rattle.charts.specs.inner.Marks.{arcs_by, kind_marks}
use Rattle.chart_check.specs.inner.MarkContracts.{marks_swept_to, Blank, ListedRoom}
use Rattle.chart_check.proofs.Found.{lowest-found, found-below}
use Rattle.chart_check.proofs.node_marks.Sweeps.{swept-same}

-- the arcs by their number
module _ (c : Chart) (b : Bool) (v n : ℕ) (e : n ≡ length (arcs_by c b v)) where
  pub no-arc : n ≡ 0 → arcs_by c b v ≡ []
  no-arc z = grind (arith, common_steps)

  pub one-arc : n ≡ 1 → arcs_by c b v ≡ next0 c v ∷ []
  one-arc z = grind (arith, common_steps)

  pub both-arcs : (n ≡ 0 → ⊥) → (n ≡ 1 → ⊥) → arcs_by c b v ≡ next0 c v ∷ next1 c v ∷ []
  both-arcs some more = grind (arith, common_steps)

pub ruleset arcs_told = (no-arc, one-arc, both-arcs)

-- ---- the marks of a kind, written one after the other over old marks
module _ (c : Chart) (k : ℕ) (old : List Bool) where
  abbrev front : ℕ → List Bool
  front v = map (is c k) (range 0 v)

  pub kinds-more : (v x : ℕ) (ms : List Bool) → v < length old → ms ≡ map (is c k) (range 0 v) ++ drop v old → x ≡ kind c v
      → set ms v (x == k) ≡ map (is c k) (range 0 (v + 1)) ++ drop (v + 1) old
  kinds-more v x ms l e q =
      let d : drop v old ≡ slice_index_or old v false ∷ drop (suc v) old = drop-cons old v false l in
      ap (λ (xs : List Bool). set xs v (x == k)) (e ∙ ap (λ (xs : List Bool). front v ++ xs) d)
      ∙ set_at (front v) (slice_index_or old v false) (drop (suc v) old) (x == k) v (length-map-range (is c k) 0 v)
      ∙ sym (append_snoc (front v) (x == k) (drop (suc v) old))
      ∙ ap (λ b. (front v ++ (b ∷ [])) ++ drop (suc v) old) (ap (λ (y : ℕ). y == k) q ∙ ap (is c k) (omega arith))
      ∙ ap (λ (xs : List Bool). xs ++ drop (suc v) old) (sym (map-range-snoc (is c k) 0 v))
      ∙ ap (λ (j : ℕ). map (is c k) (range 0 j) ++ drop j old) (sym (add-one v))

-- ---- a condition on a circle
pub no-circle : (c : Chart) (v : ℕ) → is c 3 v ≡ false → is_on_circle c v ≡ false
no-circle c v i = rw i

-- the marks of the next nodes of v, spread: those of the definition
pub spread-back : (c : Chart) (v : ℕ) (first joined : List Bool) → first ≡ only_marks (size c) (arcs c v)
    → joined ≡ reach (size c) (condition_arcs c) (size c) first → joined ≡ nodes_joined_from (size c) (condition_arcs c) (arcs c v)
spread-back c v first joined marks spread = spread ∙ ap (λ (xs : List Bool). reach (size c) (condition_arcs c) (size c) xs) marks

-- ---- the marks of all Begins, spread by a sweep and then all the way
pub spread-apart : (c : Chart) (begins swept joined : List Bool) → begins ≡ kind_marks c 0 → swept ≡ marks_swept_to c (size c) begins
    → joined ≡ reach (size c) (arcs c) (size c) swept → joined ≡ reach (size c) (arcs c) (size c) (kind_marks c 0)
spread-apart c begins swept joined first sweep spread = grind (arith, common_steps, swept-same, length-map-range)

-- where as many are marked as there are, there is none without
pub all-marked : (ms : List Bool) (n : ℕ) → length ms ≡ n → many ms ≡ n → None ≡ find (λ v. not (is_marked ms v)) (range_with_len 0 n)
all-marked ms n long e = grind (arith, common_steps, zero-add, full-marked, lowest-none, lowest-found, lt-ltb, le-ltb)

pub ruleset apart = (spread-apart, found-below)

-- ---- marks that a table of 256 lends
pub part-of : {A : Type 0} (m n : ℕ) (a : A) → n ≤ m → take n (replicate m a) ≡ replicate n a
part-of zero zero a l = refl
part-of zero (suc n) a l = absurd (omega arith)
part-of (suc m) zero a l = refl
part-of (suc m) (suc n) a l = ap (λ xs. a ∷ xs) (part-of m n a (omega arith))

-- ---- where no node is marked, the list has none
module _ (c : Chart) (marks : List Bool) (list : List ℕ) (blank : Blank c marks list) where
  pub blank-long : length marks ≡ size c
  blank-long = ap (λ (xs : List Bool). length xs) blank.none ∙ length-replicate (size c) false

  pub blank-lent : ListedRoom c marks list 0
  blank-lent = record {
    long = blank-long;
    room = blank.room;
    listed = subst (λ (xs : List Bool). Listed xs list 0) (sym blank.none) (listed-none (size c) list);
  }

-- ---- nodes enlisted in what is lent
pub lent-enlisted : (c : Chart) (marks : List Bool) (list : List ℕ) (k : ℕ) → ListedRoom c marks list k → (us : List ℕ) (t : Listing)
    → t ≡ enlist_all (listing marks list k) us → Enlisted (listing marks list k) us t
lent-enlisted c marks list k lent us t e = enlisted-all us (listing marks list k) t (omega (arith, lent.long, lent.room)) lent.listed e

-- ---- a turn of `join`'s loop: the first i of the list are followed
pub record Turn (c : Chart) (b : Bool) (marks₀ : List Bool) (list₀ : List ℕ) (marks : List Bool) (list : List ℕ) (end i : ℕ) : Type 0 where
  pub inside : i ≤ end
  pub same : length list ≡ length list₀
  pub joining : Joining (size c) (arcs_by c b) marks₀ marks
  pub listed : Listed marks list end
  pub followed : Followed (size c) (arcs_by c b) marks list i

module _ (c : Chart) (b : Bool) (marks₀ : List Bool) (list₀ : List ℕ) (marks : List Bool) (list : List ℕ) (end i : ℕ) where
  pub turn-few : Turn c b marks₀ list₀ marks list end i → end ≤ size c
  turn-few t = omega (arith, list-few marks list end t.listed, t.joining.long)

  pub turn-lent : {k : ℕ} → ListedRoom c marks₀ list₀ k → Turn c b marks₀ list₀ marks list end i → ListedRoom c marks list end
  turn-lent r t = record { long = t.joining.long; room = omega (arith, t.same, r.room); listed = t.listed }
