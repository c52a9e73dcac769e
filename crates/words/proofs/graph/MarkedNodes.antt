-- The marked nodes in a list, the lowest first, as a loop over the nodes writes them.
use Rattle.std.proofs.Common.{◌≡◌, refl, sym, ◌∙◌, ap, Bool, true, false, List, [], ◌∷◌, ◌++◌, append-nil, map-id, ℕ, ◌+◌, ◌≤◌, ◌<◌, slice_index, filter}
use Rattle.std.proofs.Common.{zero-add, add-one, arith, length, set, length-set}
use Rattle.std.proofs.Math.ListN.{get_or-append}
use Rattle.std.proofs.lemmas.Grind.{common_steps}
use Rattle.words.specs.lists.Numbers.{range, count}
use Rattle.std.specs.List.{AllByRecursion}
use Rattle.words.specs.lists.Sequences.{over, written}
use Rattle.words.proofs.lists.Counts.{count-le, count-below, count-yes, count-pass}
use Rattle.words.proofs.lists.Ranges.{range-snoc, filter-yes, filter-no, length-filter, get_or-filter}
use Rattle.words.proofs.lists.Filters.{filter-none}
use Rattle.words.proofs.lists.Joins.{all-at, all-every, all-filter}
use Rattle.words.proofs.lists.Written.{written-none, written-snoc, written-front}
use Rattle.words.specs.graph.Reach.{is_marked}
use Rattle.words.specs.inner.Listed.{many, marked_nodes, Listed}
use Rattle.words.proofs.graph.Closure.{marked-below}

-- the marked nodes below v
abbrev pub lower : List Bool → ℕ → List ℕ
lower ms v = filter (is_marked ms) (range 0 v)

lower-long : (ms : List Bool) (v : ℕ) → length (lower ms v) ≡ count (is_marked ms) 0 v
lower-long ms v = length-filter (is_marked ms) 0 v

-- one node more
lower-more : (ms : List Bool) (v : ℕ) → lower ms (v + 1) ≡ lower ms v ++ filter (is_marked ms) (v ∷ [])
lower-more ms v = grind (arith, common_steps, zero-add v, range-snoc 0 v, add-one v)

lower-yes : (ms : List Bool) (v : ℕ) → is_marked ms v ≡ true → lower ms (v + 1) ≡ lower ms v ++ (v ∷ [])
lower-yes ms v m = lower-more ms v
    ∙ ap (λ (us : List ℕ). lower ms v ++ us) (filter-yes (is_marked ms) v [] m ∙ ap (λ (us : List ℕ). v ∷ us) (filter-none (is_marked ms)))

lower-no : (ms : List Bool) (v : ℕ) → is_marked ms v ≡ false → lower ms (v + 1) ≡ lower ms v
lower-no ms v m = lower-more ms v ∙ ap (λ (us : List ℕ). lower ms v ++ us) (filter-no (is_marked ms) v [] m ∙ filter-none (is_marked ms))
    ∙ append-nil (lower ms v)

-- ---- the list that has them at its front
pub listed-lowest : (ms : List Bool) (old list : List ℕ) (k : ℕ) → (list ≡ over (marked_nodes ms) old) × (k ≡ many ms) → Listed ms list k
listed-lowest ms old list k (e, c) = record {
  counted = c;
  are = λ i l. grind (arith, common_steps, all-at, passed, long, at);
  all = λ v m.
      let l : v < length ms = marked-below (length ms) ms v refl m in
      let b : count (is_marked ms) 0 v < many ms = count-below (is_marked ms) v (length ms) l m in
      record {
        place = count (is_marked ms) 0 v;
        inside = omega arith;
        found =
            at (count (is_marked ms) 0 v) b
            ∙ ap (λ (us : List ℕ). slice_index us (count (is_marked ms) 0 v)) (sym (map-id (marked_nodes ms)))
            ∙ get_or-filter (λ u. u) 0 (is_marked ms) 0 (length ms) v l (ap (is_marked ms) (zero-add v) ∙ m) ∙ zero-add v;
      };
}
  where
    long : length (marked_nodes ms) ≡ many ms
    long = lower-long ms (length ms)

    passed : AllByRecursion (λ u. Unit {0} × (is_marked ms u ≡ true)) (marked_nodes ms)
    passed = all-filter (λ u. Unit {0}) (is_marked ms) (range 0 (length ms)) (all-every (λ u. Unit {0}) (λ u. tt) (range 0 (length ms)))

    at : (i : ℕ) → i < many ms → slice_index list i ≡ slice_index (marked_nodes ms) i
    at i l = grind (arith, common_steps, get_or-append, long)

-- ---- the loop: those below v are written
pub record Writing (ms : List Bool) (old list : List ℕ) (k v : ℕ) : Type 0 where
  pub size : length list ≡ length old
  pub counted : k ≡ count (is_marked ms) 0 v
  pub buffer : list ≡ written old 0 (lower ms v)

pub writing-none : (ms : List Bool) (old : List ℕ) → Writing ms old old 0 0
unfolding count
writing-none ms old = grind (arith, common_steps, filter-none, written-none)

module _ (ms : List Bool) (old list : List ℕ) (k v : ℕ) (is : Writing ms old list k v) where
  pub writing-few : k ≤ v
  writing-few = omega (arith, is.counted, count-le (is_marked ms) 0 v)

  pub writing-yes : k < length old → is_marked ms v ≡ true → Writing ms old (set list k v) (k + 1) (v + 1)
  writing-yes r m = grind (arith, common_steps, written-snoc old 0, length-set list k v, lower-long ms v, lower-yes ms v m, count-yes)

  pub writing-no : is_marked ms v ≡ false → Writing ms old list k (v + 1)
  writing-no m = grind (arith, common_steps, count-pass, lower-no)

  pub writing-done : v ≡ length ms → (list ≡ over (marked_nodes ms) old) × (k ≡ many ms)
  writing-done e = grind (arith, common_steps, written-front)
