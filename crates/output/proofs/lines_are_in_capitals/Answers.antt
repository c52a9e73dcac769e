use Rattle.std.proofs.Common.{ℕ, ◌/◌, ◌%◌, refl, ap, List, [], ◌∷◌, ◌++◌, arith}
use Rattle.text.specs.digits.Digit.{capital}
use Rattle.text.proofs.frames.Frames.{frame-by}
use Rattle.translator.proofs.Capitals.{byte-capitals, frame-capitals}
use Rattle.output.specs.Lines.{refusal_line, code_line}
use Rattle.output.proofs.lines_are_in_capitals.Goals as goal

pub returns-clause-refusal : goal.returns-clause-refusal
unfolding refusal_line
returns-clause-refusal c number index h =
    frame-capitals (255 ∷ number ∷ index / 256 % 256 ∷ index % 256 ∷ 0 ∷ 0 ∷ 0 ∷ 0 ∷ 0 ∷ 0 ∷ [])
    (frame-by (255 ∷ number ∷ index / 256 % 256 ∷ index % 256 ∷ 0 ∷ 0 ∷ 0 ∷ 0 ∷ 0 ∷ 0 ∷ []) refl (omega (arith, h)))

pub returns-clause-code : goal.returns-clause-code
unfolding code_line capital
returns-clause-code c code h = ap (λ (t : List ℕ). t ++ (10 ∷ [])) (byte-capitals code h)
