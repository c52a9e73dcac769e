-- What the translator's program prints for a text is what it prints for it in capitals.
use Rattle.std.proofs.Common.{ℕ, ◌≡◌, List, map, arith}
use Rattle.std.proofs.lemmas.Grind.{common_steps}
use Rattle.text.specs.digits.Digit.{capital}
use Rattle.text.proofs.frames.Capitals.{capitals-alike}
use Rattle.translator.proofs.Alike.{translate-verdict}
use Rattle.output.specs.TranslateProgram.{translate_output}

pub translates : (t : List ℕ) → translate_output (map capital t) ≡ translate_output t
unfolding translate_output
translates t = grind (arith, common_steps, translate-verdict, capitals-alike)
