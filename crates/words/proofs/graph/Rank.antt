-- The rank of a node: how many nodes its arcs join to it, itself counted. It falls along each arc of a node on no circle.
use Rattle.std.proofs.Common.{◌≡◌, refl, subst, ⊎_elim, Bool, true, false, ◌||◌, List, ℕ, ◌≤◌, ◌<◌, arith, eqb-true, eq-eqb, ne_eqb, ◌==◌}
use Rattle.words.specs.lists.Numbers.{count}
use Rattle.words.proofs.lists.Tests.{no_both, or-cases, or-true-l, or-true-r, or-none, cases}
use Rattle.words.proofs.lists.Counts.{count-le, count-less, count-some}
use Rattle.words.specs.graph.Reach.{is_member, is_marked, nodes_joined_from}
use Rattle.words.proofs.graph.Closure.{joined-first, joined-closed, joined-least}

module _ (n : ℕ) (arcs : ℕ → List ℕ) where
  -- the nodes joined from the ends of v's arcs; these and v
  abbrev pub marks_after_arcs : ℕ → List Bool
  marks_after_arcs v = nodes_joined_from n arcs (arcs v)

  abbrev pub with : ℕ → ℕ → Bool
  with v u = v == u || is_marked (marks_after_arcs v) u

  unfoldable pub rank : ℕ → ℕ
  rank v = count (with v) 0 n

  -- what is joined from a node that is joined
  pub after-after : (v u : ℕ) → u < n → is_marked (marks_after_arcs v) u ≡ true → (k : ℕ)
      → is_marked (marks_after_arcs u) k ≡ true → is_marked (marks_after_arcs v) k ≡ true
  after-after v u l m = joined-least n arcs (arcs u) (is_marked (marks_after_arcs v)) (joined-closed n arcs (arcs v))
      (λ k lk s. (joined-closed n arcs (arcs v)).goes u k l lk m s)

  pub with-self : (v : ℕ) → with v v ≡ true
  with-self v = or-true-l (v == v) (is_marked (marks_after_arcs v) v) (eq-eqb v v refl)

  pub rank-le : (v : ℕ) → rank v ≤ n
  unfolding rank
  rank-le v = count-le (with v) 0 n

  pub rank-some : (v : ℕ) → v < n → 1 ≤ rank v
  unfolding rank
  rank-some v l = count-some (with v) n v l (with-self v)

  pub rank-falls : (v u : ℕ) → v < n → u < n → is_member u (arcs v) ≡ true → is_marked (marks_after_arcs v) v ≡ false → rank u < rank v
  unfolding rank
  rank-falls v u lv lu s f =
      let m : is_marked (marks_after_arcs v) u ≡ true = joined-first n arcs (arcs v) u lu s in
      count-less (with u) (with v) 0 n
      (λ k x y t. or-true-r (v == k) (is_marked (marks_after_arcs v) k) (⊎_elim
      (λ (e : (u == k) ≡ true). subst (λ (z : ℕ). is_marked (marks_after_arcs v) z ≡ true) (eqb-true u k e) m)
      (λ (e : is_marked (marks_after_arcs u) k ≡ true). after-after v u lu m k e)
      (or-cases (u == k) (is_marked (marks_after_arcs u) k) t)))
      v (omega arith) (omega arith)
      (or-none (u == v) (is_marked (marks_after_arcs u) v)
      (ne_eqb u v (λ e. no_both (is_marked (marks_after_arcs v) v) (subst (λ (z : ℕ). is_marked (marks_after_arcs v) z ≡ true) e m) f))
      (⊎_elim (λ (e : is_marked (marks_after_arcs u) v ≡ true). no_both (is_marked (marks_after_arcs v) v) (after-after v u lu m v e) f)
      (λ (e : is_marked (marks_after_arcs u) v ≡ false). e) (cases (is_marked (marks_after_arcs u) v))))
      (with-self v)
