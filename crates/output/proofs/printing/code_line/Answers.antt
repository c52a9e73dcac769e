-- `output::printing::code_line` meets its contract: the two characters are those of the code's digits.
use Rattle.std.proofs.Common.{ap₂, [], ◌∷◌}
use Rattle.output.specs.Lines.{code_line}
use Rattle.output.proofs.printing.code_line.Goals as goal

pub returns : goal.returns
unfolding code_line
returns c = ap₂ (λ x y. x ∷ y ∷ 10 ∷ []) c.character-high.ensures c.character-low.ensures
