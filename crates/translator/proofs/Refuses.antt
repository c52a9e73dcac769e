-- The numbers that the translator refuses with: 1 to 10 and 19.
use Rattle.std.proofs.Common.{ℕ, ◌≤◌, List, arith, length, nat_lt}
use Rattle.std.proofs.lemmas.Grind.{common_steps}
use Rattle.text.specs.frames.Frame.{contents}
use Rattle.text.specs.frames.Check.{text_verdict}
use Rattle.text.proofs.frames.Refuses.{RefusesWith, next-refuses, when-refuses, lowest-refuses, text-refuses}
use Rattle.charts.specs.Chart.{Chart}
use Rattle.charts.specs.Check.{chart_verdict}
use Rattle.charts.specs.Entry.{read_verdict}
use Rattle.chart_rows.specs.Rows.{rows}
use Rattle.translator.specs.Entry.{translate_verdict}

-- 1 to 19
abbrev pub OfChart : ℕ → Type 0
OfChart k = (1 ≤ k) × (k ≤ 19)

chart-refuses : (c : Chart) → RefusesWith OfChart (chart_verdict c)
unfolding chart_verdict
chart-refuses c = grind (arith, common_steps, lowest-refuses, next-refuses, when-refuses)

pub translate-refuses : (t : List ℕ) → RefusesWith OfChart (translate_verdict t)
unfolding translate_verdict read_verdict
translate-refuses t =
    next-refuses OfChart (read_verdict t) _
    (next-refuses OfChart (text_verdict 5888 t) _
    (text-refuses OfChart (omega arith, omega arith) (omega arith, omega arith) (omega arith, omega arith) 5888 t)
    (chart-refuses (contents t)))
    (when-refuses OfChart 10 (nat_lt 1024 (length (rows (contents t)))) (omega arith, omega arith))
