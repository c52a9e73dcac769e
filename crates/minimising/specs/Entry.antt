-- The smaller image of an image's text: what is answered and what the lent buffer then holds.
use Rattle.std.specs.Prelude.{ℕ, List}
use Rattle.text.specs.declared.frames.refusals.TheConstants.{UNEVEN}
use Rattle.text.specs.frames.Frame.{contents}
use Rattle.text.specs.frames.Verdict.{Verdict, next, when}
use Rattle.text.specs.frames.Answer.{BufferOutcome, buffer_on}
use Rattle.image.specs.Image.{image_text}
use Rattle.image.specs.Decode.{decoded_image}
use Rattle.image.specs.Check.{image_verdict}
use Rattle.covering.specs.Matched.{is_uneven}
use Rattle.minimising.specs.group_numbers.Smaller.{smaller_image}

-- what the image check tries, then 23; 16 follows
unfoldable pub minimise_verdict : List ℕ → Verdict
minimise_verdict t = next (image_verdict t) λ _. when UNEVEN (is_uneven (decoded_image (contents t)))

unfoldable pub minimise : List ℕ → List ℕ → BufferOutcome
minimise t old = buffer_on (minimise_verdict t) 1 (λ _. image_text (smaller_image (decoded_image (contents t)))) old
