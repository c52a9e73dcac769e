-- Marks set one after the other: between those at first and all that arcs join from them, until no arc leaves the set.
use Rattle.std.proofs.Common.{◌≡◌, refl, sym, ◌∙◌, ap, ◌⊎◌, inl, inr, ⊎_elim, Bool, true, false, List, [], ◌∷◌, ℕ, ◌+◌, ◌<◌, arith, ◌==◌}
use Rattle.std.proofs.Common.{length, set, replicate, length-set, ext_get_or, get_or-set_same, get_or-set_other, eqb-true, eq-eqb}
use Rattle.std.proofs.Math.ListN.{length-replicate, get_or-replicate}
use Rattle.std.proofs.lemmas.Grind.{common_steps}
use Rattle.words.specs.lists.Numbers.{count}
use Rattle.words.proofs.lists.Tests.{no_both, or-cases, or-true-l, or-true-r, cases}
use Rattle.words.proofs.lists.Counts.{count-add, count-miss}
use Rattle.words.specs.graph.Reach.{is_member, is_marked, only_marks, reach}
use Rattle.words.specs.inner.Listed.{many, mark_all}
use Rattle.words.proofs.graph.Closure.{marked-below, only-long, only-at, Closed, reach-long, reach-grow, reach-least, reach-closed}

-- ---- one mark
module _ (ms : List Bool) (u : ℕ) where
  pub set-hit : u < length ms → is_marked (set ms u true) u ≡ true
  set-hit l = get_or-set_same ms u true false l

  pub set-grow : (v : ℕ) → is_marked ms v ≡ true → is_marked (set ms u true) v ≡ true
  set-grow v m = grind (arith, common_steps, get_or-set_other, marked-below, set-hit)

  pub set-back : (v : ℕ) → is_marked (set ms u true) v ≡ true → (v ≡ u) ⊎ (is_marked ms v ≡ true)
  set-back v m = grind (arith, common_steps, get_or-set_other)

  pub set-many : u < length ms → is_marked ms u ≡ false → many (set ms u true) ≡ many ms + 1
  set-many l m =
      ap (λ (n : ℕ). count (is_marked (set ms u true)) 0 n) (length-set ms u true)
      ∙ count-add (is_marked ms) (is_marked (set ms u true)) 0 (length ms) u (omega arith) (omega arith)
      m (set-hit l) (λ k n. get_or-set_other ms u k true false n)

-- ---- the nodes of a list
pub all-long : (us : List ℕ) (ms : List Bool) → length (mark_all us ms) ≡ length ms
unfolding mark_all
all-long [] ms = refl
all-long (u ∷ us) ms = all-long us (set ms u true) ∙ length-set ms u true

pub all-grow : (us : List ℕ) (ms : List Bool) (v : ℕ) → is_marked ms v ≡ true → is_marked (mark_all us ms) v ≡ true
unfolding mark_all
all-grow [] ms v m = m
all-grow (u ∷ us) ms v m = all-grow us (set ms u true) v (set-grow ms u v m)

some-first : (v u : ℕ) (us : List ℕ) → v ≡ u → is_member v (u ∷ us) ≡ true
some-first v u us e = or-true-l (v == u) (is_member v us) (eq-eqb v u e)

some-later : (v u : ℕ) (us : List ℕ) → is_member v us ≡ true → is_member v (u ∷ us) ≡ true
some-later v u us e = or-true-r (v == u) (is_member v us) e

some-cons : (v u : ℕ) (us : List ℕ) → is_member v (u ∷ us) ≡ true → (v ≡ u) ⊎ (is_member v us ≡ true)
some-cons v u us s = ⊎_elim (λ (e : (v == u) ≡ true). inl (eqb-true v u e)) inr (or-cases (v == u) (is_member v us) s)

pub all-hit : (us : List ℕ) (ms : List Bool) (v : ℕ) → v < length ms → is_member v us ≡ true → is_marked (mark_all us ms) v ≡ true
unfolding mark_all
all-hit [] ms v l s = grind (arith, common_steps, no_both)
all-hit (u ∷ us) ms v l s = grind (arith, common_steps, all-hit us (set ms u true) v (omega (arith, length-set ms u true)), length-set, set-hit, all-grow, some-cons)

pub all-back : (us : List ℕ) (ms : List Bool) (v : ℕ) → is_marked (mark_all us ms) v ≡ true
    → (is_member v us ≡ true) ⊎ (is_marked ms v ≡ true)
unfolding mark_all
all-back [] ms v m = grind (arith, common_steps)
all-back (u ∷ us) ms v m = grind (arith, common_steps, all-back us (set ms u true) v m, set-back, some-first, some-later)

-- on no marks at all
pub all-only : (n : ℕ) (us : List ℕ) → mark_all us (replicate n false) ≡ only_marks n us
all-only n us = grind (arith, common_steps, only-long n us, ext_get_or false, get_or-replicate, length-replicate, no_both, only-at, all-long, all-hit, all-back)

-- ---- marks that spread
-- marks between those at first and all that arcs join from them
pub record Joining (n : ℕ) (arcs : ℕ → List ℕ) (first now : List Bool) : Type 0 where
  pub long : length now ≡ n
  pub from : (v : ℕ) → is_marked first v ≡ true → is_marked now v ≡ true
  pub within : (v : ℕ) → is_marked now v ≡ true → is_marked (reach n arcs n first) v ≡ true

module _ (n : ℕ) (arcs : ℕ → List ℕ) (first : List Bool) (e : length first ≡ n) where
  pub joining-first : Joining n arcs first first
  joining-first = record { long = e; from = λ v m. m; within = reach-grow n arcs n first e }

  pub joining-done : (now : List Bool) → Joining n arcs first now → Closed n arcs (is_marked now) → now ≡ reach n arcs n first
  joining-done now j k = ext_get_or false now (reach n arcs n first) (j.long ∙ sym (reach-long n arcs n first e))
      (λ v l. go v (cases (is_marked now v)))
    where
      go : (v : ℕ) → (is_marked now v ≡ true) ⊎ (is_marked now v ≡ false) → is_marked now v ≡ is_marked (reach n arcs n first) v
      go v (inl m) = m ∙ sym (j.within v m)
      go v (inr m) = grind (arith, common_steps, cases (is_marked (reach n arcs n first) v), reach-least, no_both)

  -- marks on the way join what the first ones do
  pub joining-same : (now : List Bool) → Joining n arcs first now → reach n arcs n now ≡ reach n arcs n first
  joining-same now j = joining-done (reach n arcs n now) (record {
    long = reach-long n arcs n now j.long;
    from = λ v m. reach-grow n arcs n now j.long v (j.from v m);
    within = reach-least n arcs (is_marked (reach n arcs n first)) (reach-closed n arcs first e) n now j.within;
  }) (reach-closed n arcs now j.long)

-- ---- every node marked
module _ (ms : List Bool) (full : many ms ≡ length ms) where
  pub full-marked : (v : ℕ) → v < length ms → is_marked ms v ≡ true
  full-marked v l =
      ⊎_elim (λ (t : is_marked ms v ≡ true). t)
      (λ (t : is_marked ms v ≡ false). absurd (omega (arith, count-miss (is_marked ms) (length ms) v l t)))
      (cases (is_marked ms v))

  pub full-reach : (n : ℕ) (arcs : ℕ → List ℕ) → length ms ≡ n → ms ≡ reach n arcs n ms
  full-reach n arcs e = joining-done n arcs ms e ms (joining-first n arcs ms e)
      (record { goes = λ u v lu lv m s. full-marked v (omega arith) })
