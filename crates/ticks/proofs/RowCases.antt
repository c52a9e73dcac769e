-- Which bit decides among the rows of a label.
use Rattle.std.proofs.Common.{if◌then◌else◌, ◌≡◌, ◌∙◌, List, ℕ, eq-eqb, ◌==◌}
use Rattle.std.proofs.lemmas.Bool.{cond-true}
use Rattle.results.specs.Results.{Results, result_of}
use Rattle.tables.specs.Table.{table_label}
use Rattle.tables.specs.inner.Labels.{as_label}
use Rattle.ticks.specs.inner.TickContracts.{bit_of}
use Rattle.tables.specs.declared.Label as declared

-- ---- the bit that decides among the rows of label l, read as z, where the result of number h is looked at
module _ (b : List ℕ) (l : ℕ) (z : declared.Label) (read : as_label z ≡ table_label b l) (bs : Results)
    (h bit : ℕ) (e : bit ≡ bit_of z.kind h bs) where
  pub bit-called : z.kind ≡ 2 → bit ≡ (if result_of h bs then 1 else 0)
  bit-called k = e ∙ cond-true (z.kind == 2) (if result_of h bs then 1 else 0) 2 (eq-eqb z.kind 2 k)
