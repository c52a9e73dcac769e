-- Texts that are read alike are translated alike.
use Rattle.std.proofs.Common.{ℕ, ◌≡◌, ap₂, List, length, nat_lt}
use Rattle.text.specs.frames.Verdict.{Verdict, next, when}
use Rattle.text.specs.frames.Answer.{buffer_on}
use Rattle.text.specs.frames.Alike.{ReadAlike}
use Rattle.charts.proofs.Alike.{read-verdict}
use Rattle.image.specs.Image.{image_text}
use Rattle.chart_rows.specs.Rows.{rows}
use Rattle.translator.specs.Table.{table}
use Rattle.translator.specs.Entry.{translate_verdict, translate}

module _ (t u : List ℕ) (A : ReadAlike t u) where
  pub translate-verdict : translate_verdict t ≡ translate_verdict u
  unfolding translate_verdict
  translate-verdict =
      ap₂ (λ (v : Verdict) (c : List ℕ). next v λ _. when 10 (nat_lt 1024 (length (rows c)))) (read-verdict t u A) A.contents

  pub translates : (out : List ℕ) → translate t out ≡ translate u out
  unfolding translate
  translates out = ap₂ (λ (v : Verdict) (c : List ℕ). buffer_on v 1 (λ _. image_text (table c)) out) translate-verdict A.contents
