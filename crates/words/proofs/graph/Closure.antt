-- As many rounds as there are nodes give the least set of marks that no arc leaves.
use Rattle.std.proofs.Common.{◌≡◌, refl, sym, ◌∙◌, ap, subst, ◌⊎◌, inl, inr, ⊎_elim, Bool, true, false, ◌&&◌, ◌||◌, List, map, ℕ, zero, suc}
use Rattle.std.proofs.Common.{◌≤◌, ◌<◌, zero-add, arith, length, ext_get_or}
use Rattle.std.proofs.Math.Decide.{dec_le, dec_lt}
use Rattle.std.proofs.Math.ListN.{get_or-eq_default}
use Rattle.std.proofs.lemmas.Grind.{common_steps}
use Rattle.words.specs.lists.Numbers.{range, any, count}
use Rattle.words.proofs.lists.Tests.{no_both, or-cases, or-true-l, or-true-r, and-l, and-r, and-true}
use Rattle.words.proofs.lists.Searches.{any-true, any-some}
use Rattle.words.proofs.lists.Counts.{count-le, count-same}
use Rattle.words.proofs.lists.Ranges.{length-map-range, get_or-map-range}
use Rattle.words.specs.graph.Reach.{is_member, is_marked, only_marks, spread, reach, nodes_joined_from}

-- ---- marks
pub marks-at : (f : ℕ → Bool) (n v : ℕ) → v < n → is_marked (map f (range 0 n)) v ≡ f v
marks-at f n v l = get_or-map-range f false 0 n v l ∙ ap f (zero-add v)

-- a mark stands below the length
pub marked-below : (n : ℕ) (ms : List Bool) (v : ℕ) → length ms ≡ n → is_marked ms v ≡ true → v < n
marked-below n ms v e t = grind (arith, common_steps, get_or-eq_default, no_both, dec_lt)

pub only-long : (n : ℕ) (vs : List ℕ) → length (only_marks n vs) ≡ n
only-long n vs = length-map-range (λ v. is_member v vs) 0 n

pub only-at : (n : ℕ) (vs : List ℕ) (v : ℕ) → v < n → is_marked (only_marks n vs) v ≡ is_member v vs
only-at n vs v l = marks-at (λ v. is_member v vs) n v l

module _ (n : ℕ) (arcs : ℕ → List ℕ) where
  -- ---- one round
  abbrev pub from : List Bool → ℕ → ℕ → Bool
  from ms v u = is_marked ms u && is_member v (arcs u)

  pub spread-at : (ms : List Bool) (v : ℕ) → v < n → is_marked (spread n arcs ms) v ≡ (is_marked ms v || any (from ms v) 0 n)
  spread-at ms v l = marks-at (λ v. is_marked ms v || any (from ms v) 0 n) n v l

  pub spread-long : (ms : List Bool) → length (spread n arcs ms) ≡ n
  spread-long ms = length-map-range (λ v. is_marked ms v || any (from ms v) 0 n) 0 n

  pub spread-grow : (ms : List Bool) → length ms ≡ n → (v : ℕ) → is_marked ms v ≡ true → is_marked (spread n arcs ms) v ≡ true
  spread-grow ms e v t = spread-at ms v (marked-below n ms v e t) ∙ or-true-l (is_marked ms v) (any (from ms v) 0 n) t

  pub spread-arc : (ms : List Bool) (u v : ℕ) → u < n → v < n → is_marked ms u ≡ true → is_member v (arcs u) ≡ true
      → is_marked (spread n arcs ms) v ≡ true
  spread-arc ms u v lu lv m s = spread-at ms v lv ∙ or-true-r (is_marked ms v) (any (from ms v) 0 n)
      (any-true (from ms v) 0 n u (omega arith) (omega arith) (and-true (is_marked ms u) (is_member v (arcs u)) m s))

  -- a node that one round marks was marked, or an arc of a marked one leads to it
  pub record Before (ms : List Bool) (v : ℕ) : Type 0 where
    pub node : ℕ
    pub inside : node < n
    pub was : is_marked ms node ≡ true
    pub leads : is_member v (arcs node) ≡ true

  pub spread-back : (ms : List Bool) (v : ℕ) → is_marked (spread n arcs ms) v ≡ true → (v < n) × ((is_marked ms v ≡ true) ⊎ Before ms v)
  spread-back ms v m = grind (arith, common_steps, and-l, and-r, or-cases, any-some, marked-below, spread-at, spread-long)

  -- ---- all rounds
  -- a test that goes on over every arc
  pub record Closed (t : ℕ → Bool) : Type 0 where
    pub goes : (u v : ℕ) → u < n → v < n → t u ≡ true → is_member v (arcs u) ≡ true → t v ≡ true

  pub reach-long : (k : ℕ) (ms : List Bool) → length ms ≡ n → length (reach n arcs k ms) ≡ n
  unfolding reach
  reach-long zero ms e = e
  reach-long (suc k) ms e = spread-long (reach n arcs k ms)

  pub reach-grow : (k : ℕ) (ms : List Bool) → length ms ≡ n → (v : ℕ) → is_marked ms v ≡ true → is_marked (reach n arcs k ms) v ≡ true
  unfolding reach
  reach-grow zero ms e v m = m
  reach-grow (suc k) ms e v m = spread-grow (reach n arcs k ms) (reach-long k ms e) v (reach-grow k ms e v m)

  pub reach-least : (t : ℕ → Bool) → Closed t → (k : ℕ) (ms : List Bool) → ((v : ℕ) → is_marked ms v ≡ true → t v ≡ true)
      → (v : ℕ) → is_marked (reach n arcs k ms) v ≡ true → t v ≡ true
  unfolding reach
  reach-least t c zero ms h v m = h v m
  reach-least t c (suc k) ms h v m = let b = spread-back (reach n arcs k ms) v m in go b (reach-least t c k ms h)
    where
      go : (v < n) × ((is_marked (reach n arcs k ms) v ≡ true) ⊎ Before (reach n arcs k ms) v)
          → ((u : ℕ) → is_marked (reach n arcs k ms) u ≡ true → t u ≡ true) → t v ≡ true
      go (l, inl x) ih = ih v x
      go (l, inr x) ih = c.goes x.node v x.inside l (ih x.node x.was) x.leads

  abbrev many : List Bool → ℕ
  many ms = count (is_marked ms) 0 n

  -- a round that adds nothing changes nothing
  same-marks : (ms : List Bool) → length ms ≡ n → many (spread n arcs ms) ≤ many ms → spread n arcs ms ≡ ms
  same-marks ms e l = ext_get_or false (spread n arcs ms) ms (spread-long ms ∙ sym e)
      (λ v h. count-same (is_marked ms) (is_marked (spread n arcs ms)) 0 n (λ v x y m. spread-grow ms e v m)
      l v (omega arith) (omega (arith, spread-long ms)))

  reach-suc : (k : ℕ) (ms : List Bool) → reach n arcs (suc k) ms ≡ spread n arcs (reach n arcs k ms)
  unfolding reach
  reach-suc k ms = refl

  -- each round adds a node, or no later one does
  progress : (ms : List Bool) → length ms ≡ n → (k : ℕ)
      → (spread n arcs (reach n arcs k ms) ≡ reach n arcs k ms) ⊎ (k ≤ many (reach n arcs k ms))
  progress ms e zero = grind (arith, common_steps)
  progress ms e (suc k) = grind (arith, common_steps, progress ms e k, dec_le, reach-long, same-marks, reach-suc)

  pub reach-fixed : (ms : List Bool) → length ms ≡ n → spread n arcs (reach n arcs n ms) ≡ reach n arcs n ms
  reach-fixed ms e =
      ⊎_elim (λ f. f)
      (λ (h : n ≤ many (reach n arcs n ms)). same-marks (reach n arcs n ms) (reach-long n ms e)
      (omega (arith, count-le (is_marked (spread n arcs (reach n arcs n ms))) 0 n)))
      (progress ms e n)

  pub reach-closed : (ms : List Bool) → length ms ≡ n → Closed (is_marked (reach n arcs n ms))
  reach-closed ms e = record {
    goes =
        λ u v lu lv m s. subst (λ (t : List Bool). is_marked t v ≡ true) (reach-fixed ms e) (spread-arc (reach n arcs n ms) u v lu lv m s);
  }

  -- ---- the nodes joined from a list of nodes
  module _ (vs : List ℕ) where
    pub joined-long : length (nodes_joined_from n arcs vs) ≡ n
    joined-long = reach-long n (only_marks n vs) (only-long n vs)

    pub joined-below : (v : ℕ) → is_marked (nodes_joined_from n arcs vs) v ≡ true → v < n
    joined-below v m = marked-below n (nodes_joined_from n arcs vs) v joined-long m

    pub joined-first : (v : ℕ) → v < n → is_member v vs ≡ true → is_marked (nodes_joined_from n arcs vs) v ≡ true
    joined-first v l s = reach-grow n (only_marks n vs) (only-long n vs) v (only-at n vs v l ∙ s)

    pub joined-closed : Closed (is_marked (nodes_joined_from n arcs vs))
    joined-closed = reach-closed (only_marks n vs) (only-long n vs)

    pub joined-least : (t : ℕ → Bool) → Closed t → ((v : ℕ) → v < n → is_member v vs ≡ true → t v ≡ true)
        → (v : ℕ) → is_marked (nodes_joined_from n arcs vs) v ≡ true → t v ≡ true
    joined-least t c h = grind (arith, common_steps, marked-below, only-long, only-at, reach-least)
