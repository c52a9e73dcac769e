-- What the table of a chart holds at the label of a stop.
use Rattle.std.proofs.Common.{if◌then◌else◌, ℕ, Bool, true, ◌≡◌, ap, ◌∙◌, arith, ne_eqb, ◌==◌}
use Rattle.std.proofs.lemmas.Grind.{common_steps}
use Rattle.charts.specs.Chart.{Chart, kind, scheme, argument}
use Rattle.walk.specs.Stops.{Stop, plain, call, function, test, home, back}
use Rattle.walk.proofs.Facts.{StopOf}
use Rattle.walk.proofs.Views.{View, a-plain, a_call, a-function, a-home, a_back, a-begin, a-condition}
use Rattle.image.specs.Image.{Label}
use Rattle.chart_rows.specs.Labels.{is_numbered, label, stop_label, home_label, return_label}
use Rattle.translator.specs.Table.{table}
use Rattle.state.specs.State.{label_at}
use Rattle.agreement.proofs.TableFacts.{TableFacts}

abbrev pub label_held_by : Chart → ℕ → Stop → Label
label_held_by c v (plain m r u) = record { kind = 0; called = 0; owner = scheme c v; result = r; mask = m }
label_held_by c v (call m r h u) = record { kind = 1; called = h; owner = scheme c v; result = r; mask = m }
label_held_by c v (function h u₀ u₁) = record { kind = 2; called = h; owner = scheme c v; result = 0; mask = 0 }
label_held_by c v (test u) = record { kind = 0; called = 0; owner = scheme c v; result = 0; mask = 0 }
label_held_by c v home = home_label
label_held_by c v back = return_label

module _ (c : Chart) (v : ℕ) where
  -- an End has label 0 in scheme 1 and 1 elsewhere
  label-end : kind c v ≡ 1 → label c v ≡ (if scheme c v == 1 then 0 else 1)
  unfolding label
  label-end e = grind (arith, common_steps)

  pub label-home : kind c v ≡ 1 → scheme c v ≡ 1 → label c v ≡ 0
  label-home e s = label-end e ∙ ap (λ (h : ℕ). if h == 1 then 0 else 1) s

  pub label-back : kind c v ≡ 1 → (scheme c v ≡ 1 → ⊥) → label c v ≡ 1
  label-back e s = label-end e ∙ ap (λ (t : Bool). if t then 0 else 1) (ne_eqb (scheme c v) 1 s)

  module _ (facts : TableFacts c) {h : ℕ} (stop : StopOf c h v) where
    pub is-numbered : (kind c v ≡ 1 → ⊥) → is_numbered c v ≡ true
    is-numbered e = rw (stop.stopping, ne_eqb (kind c v) 1 e)

    of-node : (kind c v ≡ 1 → ⊥) → label_at (table c) (label c v) ≡ stop_label c v
    of-node e = (facts.numbers v stop.inside (is-numbered e)).2

    pub held : {s : Stop} → View c v s → label_at (table c) (label c v) ≡ label_held_by c v s
    held (a-plain e a) = of-node (λ p. omega arith) ∙ rw (e, a)
    held (a_call e a) = of-node (λ p. omega arith) ∙ rw (e, ne_eqb (argument c v) 0 a)
    held (a-function e) = of-node (λ p. omega arith) ∙ rw e
    held (a-home e s) = ap (label_at (table c)) (label-home e s) ∙ facts.labels0
    held (a_back e s) = ap (label_at (table c)) (label-back e s) ∙ facts.labels1
    held (a-begin e) = of-node (λ p. omega arith) ∙ rw e
    held (a-condition e) = of-node (λ p. omega arith) ∙ rw e
