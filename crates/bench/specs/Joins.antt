-- Cases of labels joined, of images as records: small images with one label a group, and images that are uneven and even.
use Rattle.std.specs.Prelude.{ℕ, true, false, ◌≡◌, List, [], ◌∷◌}
use Rattle.image.specs.Image.{Image, Label, Row, home_label, return_label, row}
use Rattle.covering.specs.Matched.{is_uneven}
use Rattle.minimising.specs.group_numbers.Smaller.{smaller_image}

abbrev pub image : ℕ → List ℕ → List Label → List Row → Image
image h es ls rs = record { handler = h; entries = es; labels = home_label ∷ return_label ∷ ls; rows = rs }

abbrev pub plain : ℕ → Label
plain m = record { kind = 0; called = 0; owner = 1; result = 0; mask = m }

-- a call of scheme 2 by a function of scheme 1
abbrev pub call : Label
call = record { kind = 2; called = 2; owner = 1; result = 0; mask = 0 }

abbrev pub yes_of_2 : Label
yes_of_2 = record { kind = 0; called = 0; owner = 2; result = 2; mask = 0 }

pub record GroupCases : Type 0 where
  -- two operations that act alike
  pub two-alike :
      smaller_image (image 0 (2 ∷ []) (plain 1 ∷ plain 2 ∷ plain 2 ∷ [])
      (row 2 1 0 2 3 ∷ row 2 1 1 2 4 ∷ row 3 0 0 2 0 ∷ row 4 0 0 2 0 ∷ []))
      ≡ image 0 (2 ∷ []) (plain 1 ∷ plain 2 ∷ [])
      (row 2 1 0 2 3 ∷ row 2 1 1 2 3 ∷ row 3 0 0 2 0 ∷ [])
  -- alike only where the ones after them are: a second round parts label 7 from 3 and 4
  pub parted-later :
      smaller_image (image 0 (2 ∷ []) (plain 9 ∷ plain 1 ∷ plain 1 ∷ plain 2 ∷ plain 2 ∷ plain 1 ∷ plain 3 ∷ [])
      (row 2 8 0 2 3 ∷ row 2 40 8 2 4 ∷ row 2 40 40 2 7 ∷ row 3 0 0 2 5 ∷ row 4 0 0 2 6
      ∷ row 5 0 0 2 0 ∷ row 6 0 0 2 0 ∷ row 7 0 0 2 8 ∷ row 8 0 0 2 0 ∷ []))
      ≡ image 0 (2 ∷ []) (plain 9 ∷ plain 1 ∷ plain 2 ∷ plain 1 ∷ plain 3 ∷ [])
      (row 2 8 0 2 3 ∷ row 2 40 8 2 3 ∷ row 2 40 40 2 5 ∷ row 3 0 0 2 4 ∷ row 4 0 0 2 0 ∷ row 5 0 0 2 6 ∷ row 6 0 0 2 0 ∷ [])
  -- two calls of a function whose bits lead crosswise to operations that are alike; the entry of scheme 2, a handler, is renumbered
  pub crosswise :
      smaller_image (image 2 (2 ∷ 7 ∷ []) (plain 0 ∷ call ∷ call ∷ plain 1 ∷ plain 1 ∷ yes_of_2 ∷ [])
      (row 2 2 0 2 3 ∷ row 2 2 2 2 4 ∷ row 3 0 0 0 5 ∷ row 3 0 0 1 6 ∷ row 4 0 0 0 6 ∷ row 4 0 0 1 5
      ∷ row 5 16 0 2 3 ∷ row 5 16 16 2 0 ∷ row 6 16 0 2 4 ∷ row 6 16 16 2 0 ∷ row 7 0 0 2 1 ∷ []))
      ≡ image 2 (2 ∷ 5 ∷ []) (plain 0 ∷ call ∷ plain 1 ∷ yes_of_2 ∷ [])
      (row 2 2 0 2 3 ∷ row 2 2 2 2 3 ∷ row 3 0 0 0 4 ∷ row 3 0 0 1 4 ∷ row 4 16 0 2 3 ∷ row 4 16 16 2 0 ∷ row 5 0 0 2 1 ∷ [])
  -- labels 3 and 4 test differently and lead alike: the rows of 3 are kept, none joined
  pub tests-kept :
      smaller_image (image 0 (2 ∷ []) (plain 0 ∷ plain 1 ∷ plain 1 ∷ plain 4 ∷ plain 4 ∷ [])
      (row 2 4 0 2 3 ∷ row 2 4 4 2 4 ∷ row 3 1 0 2 5 ∷ row 3 1 1 2 6 ∷ row 4 0 0 2 5 ∷ row 5 0 0 2 0 ∷ row 6 0 0 2 0 ∷ []))
      ≡ image 0 (2 ∷ []) (plain 0 ∷ plain 1 ∷ plain 4 ∷ [])
      (row 2 4 0 2 3 ∷ row 2 4 4 2 3 ∷ row 3 1 0 2 4 ∷ row 3 1 1 2 4 ∷ row 4 0 0 2 0 ∷ [])
  -- labels 2 and 4 alike, 3 between them: by their lowest members 2 comes before 3
  pub lowest-first :
      smaller_image (image 0 (2 ∷ []) (plain 1 ∷ plain 2 ∷ plain 1 ∷ [])
      (row 2 0 0 2 3 ∷ row 3 1 0 2 4 ∷ row 3 1 1 2 0 ∷ row 4 0 0 2 3 ∷ []))
      ≡ image 0 (2 ∷ []) (plain 1 ∷ plain 2 ∷ [])
      (row 2 0 0 2 3 ∷ row 3 1 0 2 2 ∷ row 3 1 1 2 0 ∷ [])

-- label 2 an operation, label 3 a function call
abbrev pub given : List Row → Image
given = image 0 (2 ∷ 1 ∷ []) (plain 1 ∷ call ∷ [])

abbrev pub even_image : Image
even_image = given (row 2 8 0 2 3 ∷ row 2 40 8 2 2 ∷ row 2 40 40 2 0 ∷ row 3 0 0 0 2 ∷ row 3 1 0 1 0 ∷ row 3 1 1 1 2 ∷ [])

-- a row is missing
abbrev pub gap_image : Image
gap_image = given (row 2 8 0 2 3 ∷ row 2 40 8 2 2 ∷ row 3 0 0 2 2 ∷ [])

-- the sizes sum up, but word 0 matches two rows, and word 3 none
abbrev pub twice_image : Image
twice_image = given (row 2 1 0 2 3 ∷ row 2 2 0 2 2 ∷ row 3 0 0 2 2 ∷ [])

-- bit 1 matches no row of label 3
abbrev pub bit_left_image : Image
bit_left_image = given (row 2 0 0 2 3 ∷ row 3 0 0 0 2 ∷ [])

-- the last label has no row
abbrev pub last_left_image : Image
last_left_image = given (row 2 0 0 2 3 ∷ [])

-- rows of different labels do not count as two
abbrev pub apart_image : Image
apart_image = given (row 2 0 0 2 3 ∷ row 3 0 0 2 2 ∷ [])

pub record EvenCases : Type 0 where
  pub even : is_uneven even_image ≡ false
  pub gap : is_uneven gap_image ≡ true
  pub twice : is_uneven twice_image ≡ true
  pub bit-left : is_uneven bit_left_image ≡ true
  pub last-left : is_uneven last_left_image ≡ true
  pub apart : is_uneven apart_image ≡ false
