-- What the label of a stop holds, by the kind of its node.
use Rattle.std.proofs.Common.{ℕ, ◌≡◌, ap}
use Rattle.charts.specs.Layout.{Function, kind_of}
use Rattle.charts.specs.Chart.{Chart, kind, scheme}
use Rattle.chart_rows.specs.Labels.{label_as, stop_label}
use Rattle.std.proofs.lemmas.Bool.Decides.{nat_tests}
use Rattle.std.proofs.lemmas.Grind.{common_steps}
use Rattle.std.proofs.Common.{arith}

module _ (c : Chart) (v : ℕ) where
  pub label-function : kind c v ≡ 4 → stop_label c v ≡ label_as c v Function
  label-function e = ap (λ (k : ℕ). label_as c v (kind_of k)) e

  pub label-owner : (stop_label c v).owner ≡ scheme c v
  label-owner = grind (arith, common_steps, nat_tests)
