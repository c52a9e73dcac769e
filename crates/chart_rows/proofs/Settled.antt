-- The node where a path goes on past the conditions that it has met before: what holds of it, and how a loop comes to it.
-- The rank falls with each condition that is passed, so the bound on their number never shows.
use Rattle.std.proofs.Common.{◌≡◌, refl, sym, ◌∙◌, ap, subst, Bool, true, false, not, List, ℕ, zero, suc, ◌+◌, ◌≤◌, ◌<◌, arith, length}
use Rattle.std.proofs.Common.{eqb-true, ◌==◌, slice_index}
use Rattle.std.proofs.lemmas.Grind.{common_steps}
use Rattle.words.proofs.lists.Tests.{and-l, and-r, not-true}
use Rattle.std.specs.Int.{bit_at}
use Rattle.text.specs.frames.Frame.{size, field}
use Rattle.charts.specs.Chart.{Chart, kind, argument, arc_taken}
use Rattle.charts.proofs.Rank.{rank, rank-le, rank-some}
use Rattle.walk.specs.Stops.{is_stop}
use Rattle.walk.proofs.Follow.{goes-on, taken-falls}
use Rattle.chart_rows.proofs.chart_labels.ReadyLaws.{ready-sound}
use Rattle.chart_rows.specs.inner.ChartContracts.{Ready}
use Rattle.chart_rows.specs.inner.PathContracts.{Noted, Entered}
use Rattle.chart_rows.specs.inner.NodeRows.{paths_from, tested_number, is_known, settled_node}
use Rattle.chart_rows.proofs.NumberLaws.{number-most, bit-known, bit-unknown, side-taken}
use Rattle.chart_rows.proofs.PathSteps.{entered-taken, at-known}

module _ (c : Chart) (care values v : ℕ) where
  settled-known : (n : ℕ) → is_known c care v ≡ true → settled_node (suc n) c care values v
      ≡ settled_node n c care values (arc_taken c values v)
  unfolding settled_node
  settled-known n k = rw (settled_node, k)

  settled-here : (n : ℕ) → is_known c care v ≡ false → settled_node n c care values v ≡ v
  unfolding settled_node
  settled-here zero k = refl
  settled-here (suc n) k = rw (settled_node, k)

-- a condition that was met before is passed along an arc, to a node of lower rank
module _ (c : Chart) (care v : ℕ) (t : Entered c v) (k : is_known c care v ≡ true) where
  pub known-goes : is_stop c v ≡ false
  known-goes = not-true (is_stop c v) (and-l (not (is_stop c v)) (bit_at care (argument c v) == 1) k)

  known-condition : kind c v ≡ 3
  known-condition = goes-on c v t.no_begin known-goes

  module _ (ready : Ready c) (values : ℕ) where
    pub known-falls : (w : ℕ) → w ≡ arc_taken c values v → rank c w < rank c v
    known-falls w e = omega (arith, ap (rank c) e, taken-falls c (ready-sound ready) values v t.inside known-condition)

    known-entered : (w : ℕ) → w ≡ arc_taken c values v → Entered c w
    known-entered w e = subst (Entered c) (sym e) (entered-taken c ready values v t.inside known-condition)

    known-paths : (l f : ℕ) → paths_from (size c) c l f care values v ≡ paths_from (size c) c l f care values (arc_taken c values v)
    known-paths l f = grind (arith, common_steps, and-r, eqb-true, at-known, known-goes)

-- ---- what holds of the node: it is a stop or a new condition, and the paths on from it are the same
pub record Settled (c : Chart) (care values v u : ℕ) : Type 0 where
  pub entered : Entered c u
  pub lower : rank c u ≤ rank c v
  pub same : (l f : ℕ) → paths_from (size c) c l f care values v ≡ paths_from (size c) c l f care values u
  pub fresh : is_known c care u ≡ false

module _ (c : Chart) (ready : Ready c) (care values : ℕ) where
  settles : (n v : ℕ) → Entered c v → rank c v ≤ n → Settled c care values v (settled_node n c care values v)
  settles zero v t h = absurd (omega (arith, rank-some c v t.inside))
  settles (suc n) v t h = go (is_known c care v) refl (settles n (arc_taken c values v))
    where
      go : (b : Bool) → is_known c care v ≡ b
          → (Entered c (arc_taken c values v) → rank c (arc_taken c values v) ≤ n
          → Settled c care values (arc_taken c values v) (settled_node n c care values (arc_taken c values v)))
          → Settled c care values v (settled_node (suc n) c care values v)
      go true k ih =
          let down = known-falls c care v t k ready values (arc_taken c values v) refl in
          let s = ih (known-entered c care v t k ready values (arc_taken c values v) refl) (omega arith) in
          subst (Settled c care values v) (sym (settled-known c care values v n k)) (record {
            entered = s.entered;
            lower = omega (arith, s.lower, down);
            same = λ l f. known-paths c care v t k ready values l f ∙ s.same l f;
            fresh = s.fresh;
          })
      go false k ih =
          subst (Settled c care values v) (sym (settled-here c care values v (suc n) k)) (record {
            entered = t;
            lower = omega arith;
            same = λ l f. refl;
            fresh = k;
          })

  pub is-settled : (v u : ℕ) → Entered c v → u ≡ settled_node (size c) c care values v → Settled c care values v u
  is-settled v u t e = subst (Settled c care values v) (sym e) (settles (size c) v t (rank-le c v))

-- ---- the loop: from node u, with n conditions still to pass at most, the path goes on where it does from node v
pub record Passing (c : Chart) (care values v u : ℕ) : Type 0 where
  pub entered : Entered c u
  pub n : ℕ
  pub enough : rank c u ≤ n
  pub same : settled_node n c care values u ≡ settled_node (size c) c care values v

pub passing-start : {c : Chart} (care values : ℕ) {v : ℕ} → Entered c v → Passing c care values v v
passing-start {c} care values {v} t = record { entered = t; n = size c; enough = rank-le c v; same = refl }

-- by the notes, whose number of node u picks the bits of the mask and of the values
module _ {c : Chart} {notes : List ℕ} (noted : Noted c notes) {care values v u : ℕ} (p : Passing c care values v u) where
  ready : Ready c
  ready = noted.chart.ready

  number-noted : slice_index notes (256 + u) ≡ tested_number c u
  number-noted = noted.numbers u p.entered.inside

  pub number-inside : 256 + u < length notes
  number-inside = omega (arith, p.entered.inside, noted.long, ready.few)

  pub number-low : slice_index notes (256 + u) ≤ 16
  number-low = number-most c ready u _ p.entered number-noted

  module _ (small : care < 65536) {b : ℕ} (eb : b ≡ bit_at care (slice_index notes (256 + u))) where
    pub passing-done : (b ≡ 1 → ⊥) → u ≡ settled_node (size c) c care values v
    passing-done n = sym (settled-here c care values u p.n (bit-unknown c ready u _ p.entered number-noted care b small eb n)) ∙ p.same

    module _ (one : b ≡ 1) {b₁ w : ℕ} (e₁ : b₁ ≡ bit_at values (slice_index notes (256 + u))) (ew : w ≡ field c u (3 + b₁)) where
      known : is_known c care u ≡ true
      known = bit-known c ready u _ p.entered number-noted care b small eb one

      side : w ≡ arc_taken c values u
      side = side-taken c ready u _ p.entered number-noted (known-goes c care u p.entered known) values b₁ w e₁ ew

      pub passing-falls : rank c w < rank c u
      passing-falls = known-falls c care u p.entered known ready values w side

      pub passing-on : Passing c care values v w
      passing-on = go p.n p.enough p.same
        where
          go : (n : ℕ) → rank c u ≤ n → settled_node n c care values u ≡ settled_node (size c) c care values v → Passing c care values v w
          go zero h q = absurd (omega (arith, rank-some c u p.entered.inside))
          go (suc n) h q = record {
            entered = known-entered c care u p.entered known ready values w side;
            n = n;
            enough = omega (arith, passing-falls);
            same = ap (settled_node n c care values) side ∙ sym (settled-known c care values u n known) ∙ q;
          }

pub ruleset settling = (passing-start, number-inside)
