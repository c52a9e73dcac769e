-- The groups of every accepted image that 23 does not refuse: they meet the rule, every grouping that meets it is within them, and none has
-- fewer groups.
use Rattle.std.specs.Prelude.{ℕ, ◌≤◌, ◌<◌, false, ◌≡◌, List, length}
use Rattle.text.specs.frames.Frame.{contents}
use Rattle.text.specs.frames.Verdict.{fine}
use Rattle.image.specs.Image.{Image}
use Rattle.image.specs.Decode.{decoded_image}
use Rattle.image.specs.Check.{image_verdict}
use Rattle.covering.specs.Matched.{is_uneven}
use Rattle.grouping.specs.Rule.{Grouping, Meets, groups}
use Rattle.grouping.specs.Classes.{class_of, grouping}

-- what holds of the image of every such text
abbrev pub OfEvenImages : (Image → Type 0) → Type 0
OfEvenImages P =
    (t : List ℕ) → image_verdict t ≡ fine → is_uneven (decoded_image (contents t)) ≡ false → P (decoded_image (contents t))

abbrev pub GroupsMeet : Type 0
GroupsMeet = OfEvenImages λ i. Meets i (class_of (grouping i))

abbrev pub GroupsCoarsest : Type 0
GroupsCoarsest = OfEvenImages λ i. (g : Grouping) → Meets i g → (l m : ℕ) → l < length i.labels → m < length i.labels
    → g l ≡ g m → class_of (grouping i) l ≡ class_of (grouping i) m

abbrev pub GroupsFewest : Type 0
GroupsFewest = OfEvenImages λ i. (g : Grouping) → Meets i g → groups (class_of (grouping i)) (length i.labels) ≤ groups g (length i.labels)
