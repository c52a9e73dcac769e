-- The image of an accepted chart, as the functions behind the entry point leave it.
use Rattle.std.specs.Prelude.{ℕ, ◌+◌, ◌*◌, List, length, Option, None, Some, if◌then◌else◌, nat_lt, flat_map}
use Rattle.text.specs.declared.frames.sizes.TheConstants.{LINE, ROWS}
use Rattle.text.specs.declared.frames.refusals.TheConstants.{MANY_ROWS}
use Rattle.text.specs.declared.frames.refusals.Refusal.{Refusal}
use Rattle.text.specs.declared.frames.refusals.Refusal.TheVariants.{ManyRows, NoRoom}
use Rattle.text.specs.frames.Verdict.{when}
use Rattle.text.specs.frames.Answer.{BufferOutcome, buffer_on}
use Rattle.charts.specs.Chart.{Chart}
use Rattle.image.specs.Image.{image_frames, image_text}
use Rattle.chart_rows.specs.Rows.{rows}
use Rattle.translator.specs.Table.{table}

-- the bytes of frames, and of those of a chart's table
abbrev pub frames_bytes : List (List ℕ) → List ℕ
frames_bytes = flat_map (λ f. f)

abbrev pub table_bytes : Chart → List ℕ
table_bytes c = frames_bytes (image_frames (table c))

-- the refusal of a chart with so many frames before its rows and room for so many characters, if there is one
abbrev pub size_refusal : Chart → ℕ → ℕ → Option Refusal
size_refusal c before room =
    if nat_lt ROWS (length (rows c)) then Some ManyRows else if nat_lt room (LINE * (before + length (rows c))) then Some NoRoom else None

-- what the functions leave in the buffer and answer: 10 and 16 are still to be tried
abbrev pub image_outcome : Chart → List ℕ → BufferOutcome
image_outcome c old = buffer_on (when MANY_ROWS (nat_lt ROWS (length (rows c)))) 1 (λ _. image_text (table c)) old
