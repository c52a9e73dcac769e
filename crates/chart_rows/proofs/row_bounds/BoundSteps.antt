-- The steps of the functions that bound the rows of nodes, at plain values.
use Rattle.std.proofs.Common.{◌≡◌, refl, bit_or, sym, ◌∙◌, ap, subst, List, ℕ, ◌+◌, ◌*◌, ◌^◌, ◌≤◌, ◌<◌, arith, length, length-append}
use Rattle.std.proofs.Common.{slice_index}
use Rattle.std.proofs.Math.Decide.{ℕ_discrete}
use Rattle.std.proofs.lemmas.Grind.{common_steps}
use Rattle.text.specs.frames.Frame.{size}
use Rattle.charts.specs.Chart.{Chart, kind, argument, next0, next1}
use Rattle.image.specs.Image.{Row}
use Rattle.chart_rows.specs.Labels.{label}
use Rattle.chart_rows.specs.Rows.{rows}
use Rattle.chart_rows.specs.inner.NodeRows.{paths_from, untested_count, sides, node_rows}
use Rattle.chart_rows.specs.inner.PathContracts.{NotedAt, Entered, Masked}
use Rattle.chart_rows.proofs.PathSteps.{entered1}
use Rattle.chart_rows.proofs.RowSteps.{rows-function, rows-condition, rows-other, no-rows, other-entered}
use Rattle.chart_rows.proofs.RowSteps.{rows_below, below-more, below-all}

-- ---- the rows of one node, where the paths that go on along an arc are no more than the values of the numbers that they may test
module _ {c : Chart} {notes : List ℕ} {v : ℕ} (node : NotedAt c notes v) where
  pub bound-none : slice_index notes v < 2 → length (node_rows c v) ≤ 0
  bound-none h = omega (arith, ap (λ (rs : List Row). length rs) (no-rows node h))

  module _ {masks : List ℕ} (m : Masked c masks) (own : 2 ≤ slice_index notes v) where
    side-paths : {u w low : ℕ} → w ≡ u → Entered c w → ((care : ℕ) → 2 ^ untested_count (slice_index masks w) care ≤ low)
        → (l f care values : ℕ) → length (paths_from (size c) c l f care values u) ≤ low
    side-paths e t s l f care values = grind (arith, common_steps)

    module _ {w0 : ℕ} (e0 : w0 ≡ next0 c v) where
      pub bound-inside0 : w0 < length masks
      bound-inside0 = omega (arith, m.long, (other-entered node own e0).inside)

      module _ {k : ℕ} (ek : k ≡ kind c v) where
        pub bound-other : {low : ℕ} → ((care : ℕ) → 2 ^ untested_count (slice_index masks w0) care ≤ low) → k < 3
            → length (node_rows c v) ≤ low
        bound-other most h =
            omega (
              arith,
              ap (λ (rs : List Row). length rs) (rows-other node own ek h refl),
              side-paths e0 (other-entered node own e0) most (label c v) 2 0 0,
            )

        module _ (two : 3 ≤ k) {w1 : ℕ} (e1 : w1 ≡ next1 c v) where
          entered-1 : Entered c w1
          entered-1 = subst (Entered c) (sym e1) (entered1 c node.noted.chart.ready v node.inside (omega arith))

          pub bound-inside1 : w1 < length masks
          bound-inside1 = omega (arith, m.long, entered-1.inside)

          module _ {low high : ℕ} (most0 : (care : ℕ) → 2 ^ untested_count (slice_index masks w0) care ≤ low)
              (most1 : (care : ℕ) → 2 ^ untested_count (slice_index masks w1) care ≤ high) where
            both : (l f g care values : ℕ) → length (sides c l f g care values v) ≤ low + high
            both l f g care values =
                omega (
                  arith,
                  length-append (paths_from (size c) c l f care 0 (next0 c v)) (paths_from (size c) c l g care values (next1 c v)),
                  side-paths e0 (other-entered node own e0) most0 l f care 0,
                  side-paths e1 entered-1 most1 l g care values,
                )

            two-sided : Dec (k ≡ 3) → length (node_rows c v) ≤ low + high
            two-sided (yes three) =
                let mask = bit_or 0 (2 ^ argument c v) in
                rw (rows-condition node own ek three refl refl) (both (label c v) 2 2 mask mask)
            two-sided (no n) = rw (rows-function node own ek two n) (both (label c v) 0 1 0 0)

            pub bound-both : length (node_rows c v) ≤ low + high
            bound-both = two-sided (ℕ_discrete k 3)

pub ruleset node_bounds = (bound-none, bound-inside0)

-- ---- the rows of the nodes below v
pub record Bounding (c : Chart) (total v : ℕ) : Type 0 where
  pub within : v ≤ size c
  pub limited : total ≤ v * 131072
  pub bounded : length (rows_below c v) ≤ total

pub bounding-start : {c : Chart} → Bounding c 0 0
bounding-start = record { within = omega arith; limited = omega arith; bounded = omega arith }

module _ {c : Chart} {total v : ℕ} (t : Bounding c total v) where
  pub bounding-on : v < size c → {more : ℕ} → length (node_rows c v) ≤ more → more ≤ 131072 → Bounding c (total + more) (v + 1)
  bounding-on l e small = record {
    within = omega arith;
    limited = omega (arith, t.limited);
    bounded =
        omega (arith, t.bounded, e, ap (λ (rs : List Row). length rs) (below-more c v) ∙ length-append (rows_below c v) (node_rows c v));
  }

  pub bounding-done : size c ≤ v → length (rows c) ≤ total
  bounding-done h = grind (arith, common_steps, below-all)

pub ruleset bounding = (bounding-start)
