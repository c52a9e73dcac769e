-- Of every image that nothing but 16 refuses to make smaller: the smaller image is accepted, 23 does not refuse it, and made smaller again
-- it is itself; its text is in capitals.
use Rattle.std.specs.Prelude.{ℕ, ◌≤◌, false, ◌≡◌, List, length, map, take}
use Rattle.words.specs.lists.Sequences.{over}
use Rattle.text.specs.digits.Digit.{capital}
use Rattle.text.specs.frames.Frame.{contents}
use Rattle.text.specs.frames.Verdict.{fine}
use Rattle.text.specs.frames.Answer.{success}
use Rattle.image.specs.Image.{image_text}
use Rattle.image.specs.Decode.{decoded_image}
use Rattle.image.specs.Check.{image_verdict}
use Rattle.covering.specs.Matched.{is_uneven}
use Rattle.minimising.specs.group_numbers.Smaller.{smaller_image}
use Rattle.minimising.specs.Entry.{minimise_verdict, minimise}

abbrev pub SmallerPasses : Type 0
SmallerPasses =
    (t : List ℕ) → minimise_verdict t ≡ fine → image_verdict (image_text (smaller_image (decoded_image (contents t)))) ≡ fine

abbrev pub SmallerEven : Type 0
SmallerEven =
    (t : List ℕ) → minimise_verdict t ≡ fine → is_uneven (smaller_image (decoded_image (contents t))) ≡ false

abbrev pub SmallerAgain : Type 0
SmallerAgain =
    (t : List ℕ) → minimise_verdict t ≡ fine
    → let i = decoded_image (contents t) in smaller_image (smaller_image i) ≡ smaller_image i

-- by the entry point: what was written, handed to it, is written again
abbrev pub MinimiseAgain : Type 0
MinimiseAgain =
    (t old : List ℕ) (n : ℕ) → (minimise t old).reply ≡ success n → (again : List ℕ) → n ≤ length again
    → let u = take n (minimise t old).buffer in minimise u again ≡ record { reply = success n; buffer = over u again }

-- whatever letters the image given has
abbrev pub SmallerCapitals : Type 0
SmallerCapitals =
    (t : List ℕ) → minimise_verdict t ≡ fine
    → let u = image_text (smaller_image (decoded_image (contents t))) in map capital u ≡ u
