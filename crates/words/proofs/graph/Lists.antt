-- Marked nodes in a list: what is followed in the order of the list, as far as it goes, has no arc that leaves the marks.
use Rattle.std.proofs.Common.{◌≡◌, refl, sym, ◌∙◌, subst, Bool, true, false, List, ℕ, ◌+◌, ◌≤◌, ◌<◌, arith, length, slice_index}
use Rattle.std.proofs.Common.{replicate}
use Rattle.std.proofs.Math.ListN.{length-replicate, get_or-replicate}
use Rattle.std.proofs.lemmas.Grind.{common_steps}
use Rattle.words.proofs.lists.Tests.{no_both}
use Rattle.words.proofs.lists.Counts.{count-le, count-none}
use Rattle.words.specs.graph.Reach.{is_member, is_marked}
use Rattle.words.specs.inner.Listed.{mark_all, Listed}
use Rattle.words.proofs.graph.Closure.{marked-below, Closed, reach-closed}
use Rattle.words.proofs.graph.Marking.{all-long, all-grow, all-hit, all-back, Joining}

-- ---- a list that stays
-- the list goes on: its first k stay, and j, not fewer, now count
pub record Longer (list on : List ℕ) (k j : ℕ) : Type 0 where
  pub more : k ≤ j
  pub kept : (i : ℕ) → i < k → slice_index on i ≡ slice_index list i

pub longer-same : (list : List ℕ) (k : ℕ) → Longer list list k k
longer-same list k = record { more = omega arith; kept = λ i l. refl }

pub longer-on : (a b d : List ℕ) (i j k : ℕ) → Longer a b i j → Longer b d j k → Longer a d i k
longer-on a b d i j k x y = grind (arith, common_steps)

-- ---- no mark
pub listed-none : (n : ℕ) (list : List ℕ) → Listed (replicate n false) list 0
listed-none n list = grind (arith, common_steps, get_or-replicate, no_both, marked-below, count-none, length-replicate)

module _ (ms : List Bool) (list : List ℕ) (k : ℕ) (is : Listed ms list k) where
  pub list-few : k ≤ length ms
  list-few = omega (arith, is.counted, count-le (is_marked ms) 0 (length ms))

-- ---- a list that is followed
-- the arcs of the first i nodes lead to marked ones
pub record Followed (n : ℕ) (arcs : ℕ → List ℕ) (ms : List Bool) (list : List ℕ) (i : ℕ) : Type 0 where
  pub led : (j : ℕ) → j < i → (v : ℕ) → v < n → is_member v (arcs (slice_index list j)) ≡ true → is_marked ms v ≡ true

module _ (n : ℕ) (arcs : ℕ → List ℕ) where
  pub followed-none : (ms : List Bool) (list : List ℕ) → Followed n arcs ms list 0
  followed-none ms list = record { led = λ j l v lv s. absurd (omega arith) }

  -- one node more
  pub followed-more : (ms out : List Bool) (list on : List ℕ) (i k j : ℕ) → length ms ≡ n → i < k
      → Longer list on k j → out ≡ mark_all (arcs (slice_index list i)) ms
      → Followed n arcs ms list i → Followed n arcs out on (i + 1)
  followed-more ms out list on i k j e b longer o f = grind (arith, common_steps, all-hit, all-grow)

  pub followed-closed : (ms : List Bool) (list : List ℕ) (k : ℕ) → Listed ms list k → Followed n arcs ms list k
      → Closed n arcs (is_marked ms)
  followed-closed ms list k is f = grind (arith, common_steps)

  pub joining-more : (first now out : List Bool) (u : ℕ) → length first ≡ n → is_marked now u ≡ true → out ≡ mark_all (arcs u) now
      → Joining n arcs first now → Joining n arcs first out
  joining-more first now out u e m o j =
      let l : length now ≡ n = j.long in
      let long : length (mark_all (arcs u) now) ≡ n = all-long (arcs u) now ∙ l in
      subst (λ (xs : List Bool). Joining n arcs first xs) (sym o) (record {
        long = long;
        from = λ v t. all-grow (arcs u) now v (j.from v t);
        within = λ v t. grind (arith, common_steps, marked-below n now u l m, marked-below n (mark_all (arcs u) now) v long t, reach-closed n arcs first e, all-back (arcs u) now v t);
      })
