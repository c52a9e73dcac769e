-- What the translator's program prints, as a function of the bytes that stand on standard input: the image, or one frame FF.
use Rattle.std.specs.Prelude.{ℕ, List}
use Rattle.text.specs.frames.Frame.{contents}
use Rattle.text.specs.frames.Verdict.{Verdict, fine, refused}
use Rattle.image.specs.Image.{image_text}
use Rattle.translator.specs.Table.{table}
use Rattle.translator.specs.Entry.{translate_verdict}
use Rattle.output.specs.Lines.{refusal_line}

-- the image, or the frame of the refusal
abbrev pub image_or : Verdict → (Unit {0} → List ℕ) → List ℕ
image_or fine image = image tt
image_or (refused k i) image = refusal_line k i

-- what it prints of a text
unfoldable pub translate_output : List ℕ → List ℕ
translate_output t = image_or (translate_verdict t) λ _. image_text (table (contents t))
