-- What the two programs print goes by no more than the longest text and one character, is the same for a text in capitals, and is in
-- capitals.
use Rattle.std.specs.Prelude.{ℕ, ◌<◌, ◌≡◌, List, map, take}
use Rattle.text.specs.digits.Digit.{capital}
use Rattle.output.specs.Lines.{refusal_line, code_line}
use Rattle.output.specs.TranslateProgram.{translate_output}
use Rattle.output.specs.RunProgram.{run_output}

-- read no more than one character past the longest chart
abbrev pub TranslateFront : Type 0
TranslateFront = (t : List ℕ) → translate_output (take 5889 t) ≡ translate_output t

-- read no more than one character past the longest image
abbrev pub RunFront : Type 0
RunFront = (t : List ℕ) → run_output (take 29832 t) ≡ run_output t

-- a chart in letters of both sizes
abbrev pub TranslateCapitals : Type 0
TranslateCapitals = (t : List ℕ) → translate_output (map capital t) ≡ translate_output t

-- an image in letters of both sizes
abbrev pub RunCapitals : Type 0
RunCapitals = (t : List ℕ) → run_output (map capital t) ≡ run_output t

-- the frame of a refusal is written in capitals
abbrev pub RefusalCapitals : Type 0
RefusalCapitals = (number index : ℕ) → number < 256 → map capital (refusal_line number index) ≡ refusal_line number index

-- the line of a code too
abbrev pub CodeCapitals : Type 0
CodeCapitals = (code : ℕ) → code < 256 → map capital (code_line code) ≡ code_line code
