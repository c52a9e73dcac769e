-- What the functions that write the smaller image ask.
use Rattle.std.specs.Prelude.{ℕ, ◌≤◌, ◌≡◌, List, length, slice_index}
use Rattle.text.specs.declared.frames.sizes.TheConstants.{LABELS}
use Rattle.image.specs.Decode.{last_label}
use Rattle.covering.specs.inner.CoveringContracts.{SoundTable}
use Rattle.minimising.specs.group_numbers.Smaller.{renumbered_label}

-- a table, the classes of its labels, and the numbers of their groups
pub record NumberedGroups (b c numbers : List ℕ) : Type 0 where
  pub table : SoundTable b
  pub long : length c ≡ LABELS
  pub room : length numbers ≡ LABELS
  pub at : (l : ℕ) → l ≤ last_label b → slice_index numbers l ≡ renumbered_label c l
