-- The translator: what it answers and what the lent buffer then holds.
use Rattle.std.specs.Prelude.{ℕ, List, length, nat_lt}
use Rattle.text.specs.declared.frames.sizes.TheConstants.{ROWS}
use Rattle.text.specs.declared.frames.refusals.TheConstants.{MANY_ROWS}
use Rattle.text.specs.frames.Frame.{contents}
use Rattle.text.specs.frames.Verdict.{Verdict, next, when}
use Rattle.text.specs.frames.Answer.{BufferOutcome, buffer_on}
use Rattle.charts.specs.Entry.{read_verdict}
use Rattle.image.specs.Image.{image_text}
use Rattle.chart_rows.specs.Rows.{rows}
use Rattle.translator.specs.Table.{table}

-- 1 to 10, with 19 after 5; 16 comes with the buffer
unfoldable pub translate_verdict : List ℕ → Verdict
translate_verdict t = next (read_verdict t) λ _. when MANY_ROWS (nat_lt ROWS (length (rows (contents t))))

unfoldable pub translate : List ℕ → List ℕ → BufferOutcome
translate t old = buffer_on (translate_verdict t) 1 (λ _. image_text (table (contents t))) old
