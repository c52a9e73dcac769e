-- A depth-first search: a condition none of whose arcs leads to an unfinished one is on no circle.
use Rattle.std.proofs.Common.{◌≡◌, sym, ◌∙◌, ap, ◌⊎◌, ⊎_elim, Bool, true, false, not, List, [], ◌∷◌, ℕ, ◌+◌, ◌-◌, ◌≤◌, ◌<◌, nat_eq, ◌==◌}
use Rattle.std.proofs.Common.{slice_index, Option, None, Some, find}
use Rattle.std.proofs.Common.{arith, length, set, length-set, eqb-true}
use Rattle.std.proofs.lemmas.Grind.{common_steps}
use Rattle.words.proofs.lists.Tests.{no_both, not-true, or-cases, cases}
use Rattle.words.proofs.lists.Searches.{some-cons}
use Rattle.words.proofs.lists.Ranges.{length-map-range}
use Rattle.words.specs.graph.Reach.{is_member, is_marked}
use Rattle.words.proofs.graph.Closure.{Closed, marks-at, marked-below, joined-least}
use Rattle.text.specs.frames.Frame.{size}
use Rattle.charts.specs.Chart.{Chart, kind, next0, next1, is}
use Rattle.charts.specs.Check.{condition_arcs, is_on_circle}
use Rattle.charts.specs.inner.Marks.{kind_marks}
use Rattle.charts.specs.inner.Finished.{NoneAhead, Finished}
use Rattle.charts.proofs.Nodes.{arcs-condition}
use Rattle.charts.proofs.Meaning.{condition-arcs, leaves-condition, member-only}
use Rattle.chart_check.proofs.node_marks.MarkCases.{no-circle}

-- at first all conditions are unfinished
pub finished-none : (c : Chart) (ms : List Bool) → ms ≡ kind_marks c 3 → Finished c ms
finished-none c ms e = grind (arith, common_steps, no_both, length-map-range, marks-at, no-circle, leaves-condition)

-- ---- the next nodes, the one on a 0 first
module _ (c : Chart) (ms : List Bool) (v : ℕ) where
  abbrev pub ahead : Option ℕ
  ahead = find (is_marked ms) (next0 c v ∷ next1 c v ∷ [])

  none-both : is_marked ms (next0 c v) ≡ false → is_marked ms (next1 c v) ≡ false → NoneAhead c ms v
  none-both a b u s =
      let i : is c 3 v ≡ true = leaves-condition c v u s in
      let t : is_member u (next0 c v ∷ next1 c v ∷ []) ≡ true =
      ap (is_member u) (sym (condition-arcs c v i ∙ arcs-condition c v (eqb-true (kind c v) 3 i))) ∙ s in
      ⊎_elim
      (λ (e : (u == next0 c v) ≡ true). ap (is_marked ms) (eqb-true u (next0 c v) e) ∙ a)
      (λ (e : is_member u (next1 c v ∷ []) ≡ true). ap (is_marked ms) (member-only u (next1 c v) e) ∙ b)
      (or-cases (u == next0 c v) (is_member u (next1 c v ∷ [])) (sym (some-cons (nat_eq u) (next0 c v) (next1 c v ∷ [])) ∙ t))

  pub none-ahead : ahead ≡ None → NoneAhead c ms v
  none-ahead e = grind (arith, common_steps, cases, none-both)

  pub some-ahead : length ms ≡ size c → (u : ℕ) → ahead ≡ Some u → u < size c
  some-ahead e u s = grind (arith, common_steps, cases, marked-below)

-- ---- one more is finished
module _ (ms : List Bool) (v : ℕ) where
  clear-keeps : v < length ms → (u : ℕ) → is_marked ms u ≡ false → is_marked (set ms v false) u ≡ false
  clear-keeps l u m = grind (arith, common_steps)

  clear-back : (u : ℕ) → is_marked (set ms v false) u ≡ false → (u ≡ v) ⊎ (is_marked ms u ≡ false)
  clear-back u m = grind (arith, common_steps)

module _ (c : Chart) (ms : List Bool) (f : Finished c ms) where
  finished-closed : Closed (size c) (condition_arcs c) (λ u. not (is_marked ms u))
  finished-closed = record { goes = λ u w lu lw t s. ap not (f.ahead u lu (not-true (is_marked ms u) t) w s) }

  module _ (v : ℕ) (l : v < size c) (none : NoneAhead c ms v) where
    -- what an unfinished condition leads to is finished, so it does not lead back to itself
    unfinished-off : is c 3 v ≡ true → is_marked ms v ≡ true → is_on_circle c v ≡ false
    unfinished-off i m = grind (arith, common_steps, cases, not-true, no_both, joined-least, condition-arcs, finished-closed)

    now-off : is_on_circle c v ≡ false
    now-off = grind (arith, common_steps, cases, no-circle, unfinished-off)

    pub finished-more : Finished c (set ms v false)
    finished-more = grind (arith, common_steps, length-set, clear-keeps, clear-back, now-off)

-- ---- where a search stands: at a node, with those that led to it on the path
pub record Standing (c : Chart) (unfinished : List Bool) (path : List ℕ) (left depth at : ℕ) : Type 0 where
  pub finished : Finished c unfinished
  pub fits : size c ≤ length path
  pub steps : depth + left ≤ size c
  pub here : at < size c
  pub before : (i : ℕ) → i < depth → slice_index path i < size c

module _ (c : Chart) (ms : List Bool) (path : List ℕ) (left depth at : ℕ) (s : Standing c ms path left depth at) where
  module _ (none : ahead c ms at ≡ None) where
    pub standing-end : Finished c (set ms at false)
    standing-end = finished-more c ms s.finished at s.here (none-ahead c ms at none)

    pub standing-back : (depth ≡ 0 → ⊥) → Standing c (set ms at false) path left (depth - 1) (slice_index path (depth - 1))
    standing-back n = grind (arith, common_steps, standing-end)

  pub standing-on : (u : ℕ) → ahead c ms at ≡ Some u → 0 < left → Standing c ms (set path depth at) (left - 1) (depth + 1) u
  standing-on u e l = grind (arith, common_steps, some-ahead, length-set)
