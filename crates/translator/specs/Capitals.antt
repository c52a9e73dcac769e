-- An image is written in capitals.
use Rattle.std.specs.Prelude.{ℕ, ◌≡◌, List, map}
use Rattle.text.specs.digits.Digit.{capital}
use Rattle.text.specs.frames.Frame.{contents}
use Rattle.text.specs.frames.Verdict.{fine}
use Rattle.image.specs.Image.{image_text}
use Rattle.translator.specs.Table.{table}
use Rattle.translator.specs.Entry.{translate_verdict}

-- whatever letters the chart has
abbrev pub ImageCapitals : Type 0
ImageCapitals = (t : List ℕ) → translate_verdict t ≡ fine → map capital (image_text (table (contents t))) ≡ image_text (table (contents t))
