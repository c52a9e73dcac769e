-- Texts that are read alike are the same chart to the reader.
use Rattle.std.proofs.Common.{ℕ, ◌≡◌, ap₂, List}
use Rattle.text.specs.frames.Verdict.{Verdict, next}
use Rattle.text.specs.frames.Answer.{buffer_on}
use Rattle.text.specs.frames.Alike.{ReadAlike}
use Rattle.charts.specs.Check.{chart_verdict}
use Rattle.charts.specs.Entry.{read_verdict, read_chart}

module _ (t u : List ℕ) (A : ReadAlike t u) where
  pub read-verdict : read_verdict t ≡ read_verdict u
  unfolding read_verdict
  read-verdict = ap₂ (λ (v : Verdict) (c : List ℕ). next v λ _. chart_verdict c) (A.verdict 5888) A.contents

  pub reads : (out : List ℕ) → read_chart t out ≡ read_chart u out
  unfolding read_chart
  reads out = ap₂ (λ (v : Verdict) (c : List ℕ). buffer_on v 10 (λ _. c) out) read-verdict A.contents
