-- The chart reader and the chart writer: what they answer and what the lent buffer then holds.
use Rattle.std.specs.Prelude.{ℕ, List, length}
use Rattle.text.specs.declared.frames.sizes.TheConstants.{RECORD, CHART_TEXT, RECORDS}
use Rattle.text.specs.declared.frames.refusals.TheConstants.{BAD_LENGTH}
use Rattle.text.specs.frames.Frame.{contents, text_of}
use Rattle.text.specs.frames.Verdict.{Verdict, next, when}
use Rattle.text.specs.frames.Check.{is_bad_length, text_verdict}
use Rattle.text.specs.frames.Answer.{BufferOutcome, buffer_on}
use Rattle.charts.specs.Chart.{Chart}
use Rattle.charts.specs.Check.{chart_verdict}

-- 1 to 9, with 19 after 5; 16 comes with the buffer
unfoldable pub read_verdict : List ℕ → Verdict
read_verdict t = next (text_verdict CHART_TEXT t) λ _. chart_verdict (contents t)

-- what the reader answers and leaves: the records, counted
unfoldable pub read_chart : List ℕ → List ℕ → BufferOutcome
read_chart t old = buffer_on (read_verdict t) RECORD (λ _. contents t) old

-- 1, and 4 to 9 with 19 after 5; 16 comes with the buffer
unfoldable pub write_verdict : Chart → Verdict
write_verdict c = next (when BAD_LENGTH (is_bad_length RECORD RECORDS (length c))) λ _. chart_verdict c

-- what the writer answers and leaves: the text, its characters counted
unfoldable pub write_chart : Chart → List ℕ → BufferOutcome
write_chart c old = buffer_on (write_verdict c) 1 (λ _. text_of c) old
