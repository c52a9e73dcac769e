-- The rows of a node, by its kind.
use Rattle.std.proofs.Common.{ℕ, zero, suc, ◌^◌, ◌≡◌, refl, ap, ◌∙◌, ◌++◌, zero-add}
use Rattle.text.specs.frames.Frame.{size}
use Rattle.charts.specs.Layout.{kind_of}
use Rattle.charts.specs.Chart.{Chart, kind, argument, next0, next1}
use Rattle.chart_rows.specs.Labels.{label}
use Rattle.chart_rows.specs.Rows.{rows_as, rows_of}
use Rattle.chart_rows.specs.inner.NodeRows.{paths_from}

module _ (c : Chart) (v : ℕ) where
  rows-by : (k : ℕ) → kind c v ≡ k → rows_of c v ≡ rows_as c v (kind_of k)
  unfolding rows_of
  rows-by k e = ap (λ (k : ℕ). rows_as c v (kind_of k)) e

  pub function-rows : kind c v ≡ 4
      → rows_of c v ≡ paths_from (size c) c (label c v) 0 0 0 (next0 c v) ++ paths_from (size c) c (label c v) 1 0 0 (next1 c v)
  function-rows e = rows-by 4 e

  pub condition-rows : kind c v ≡ 3
      → rows_of c v
      ≡ paths_from (size c) c (label c v) 2 (2 ^ argument c v) 0 (next0 c v)
      ++ paths_from (size c) c (label c v) 2 (2 ^ argument c v) (2 ^ argument c v) (next1 c v)
  condition-rows e =
      rows-by 3 e ∙ ap (λ (x : ℕ). paths_from (size c) c (label c v) 2 x 0 (next0 c v)
      ++ paths_from (size c) c (label c v) 2 x x (next1 c v))
      (zero-add (2 ^ argument c v))

  pub plain-rows : (kind c v ≡ 4 → ⊥) → (kind c v ≡ 3 → ⊥) → rows_of c v ≡ paths_from (size c) c (label c v) 2 0 0 (next0 c v)
  plain-rows n m = go (kind c v) refl n m
    where
      go : (k : ℕ) → kind c v ≡ k → (k ≡ 4 → ⊥) → (k ≡ 3 → ⊥) → rows_of c v ≡ paths_from (size c) c (label c v) 2 0 0 (next0 c v)
      go zero e n m = rows-by 0 e
      go (suc zero) e n m = rows-by 1 e
      go (suc (suc zero)) e n m = rows-by 2 e
      go (suc (suc (suc zero))) e n m = absurd (m refl)
      go (suc (suc (suc (suc zero)))) e n m = absurd (n refl)
      go (suc (suc (suc (suc (suc k))))) e n m = rows-by (suc (suc (suc (suc (suc k))))) e
