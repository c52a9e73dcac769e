-- Of every image that nothing but 16 refuses to make smaller: no grouping by the rule has fewer groups than the smaller image has labels,
-- and its text is no longer.
use Rattle.std.specs.Prelude.{ℕ, ◌≤◌, ◌≡◌, List, length}
use Rattle.text.specs.frames.Frame.{contents}
use Rattle.text.specs.frames.Verdict.{fine}
use Rattle.text.specs.frames.Answer.{success}
use Rattle.image.specs.Image.{image_text}
use Rattle.image.specs.Decode.{decoded_image}
use Rattle.grouping.specs.Rule.{Grouping, Meets, groups}
use Rattle.minimising.specs.group_numbers.Smaller.{smaller_image}
use Rattle.minimising.specs.Entry.{minimise_verdict, minimise}

abbrev pub FewestLabels : Type 0
FewestLabels =
    (t : List ℕ) → minimise_verdict t ≡ fine → let i = decoded_image (contents t) in (g : Grouping) → Meets i g
    → length (smaller_image i).labels ≤ groups g (length i.labels)

abbrev pub NeverLonger : Type 0
NeverLonger =
    (t : List ℕ) → minimise_verdict t ≡ fine → length (image_text (smaller_image (decoded_image (contents t)))) ≤ length t

-- the characters that a successful call counts
abbrev pub CountNoLonger : Type 0
CountNoLonger = (t room : List ℕ) (m : ℕ) → (minimise t room).reply ≡ success m → m ≤ length t
