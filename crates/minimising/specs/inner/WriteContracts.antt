-- What the function that writes the smaller image asks and promises.
use Rattle.std.specs.Prelude.{ℕ, false, ◌≡◌, List}
use Rattle.text.specs.frames.Verdict.{Verdict}
use Rattle.text.specs.frames.Answer.{BufferOutcome, buffer_on}
use Rattle.image.specs.Image.{image_text}
use Rattle.image.specs.Decode.{decoded_image}
use Rattle.covering.specs.Matched.{is_uneven}
use Rattle.covering.specs.inner.CoveringContracts.{SoundTable}
use Rattle.grouping.specs.Classes.{grouping}
use Rattle.grouping.specs.inner.GroupingContracts.{Classed}
use Rattle.minimising.specs.group_numbers.Smaller.{smaller_image}

-- a table to which 23 does not apply, and the classes of its labels
pub record Grouped (b c : List ℕ) : Type 0 where
  pub table : SoundTable b
  pub even : is_uneven (decoded_image b) ≡ false
  pub classes : Classed b (grouping (decoded_image b)) c

-- the smaller image of a table behind a verdict; 16 follows
abbrev pub smaller_outcome : List ℕ → Verdict → List ℕ → BufferOutcome
smaller_outcome b v old = buffer_on v 1 (λ _. image_text (smaller_image (decoded_image b))) old
