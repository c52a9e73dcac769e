-- What the functions that number the groups ask and promise.
use Rattle.std.specs.Prelude.{ℕ, ◌≤◌, ◌<◌, ◌≡◌, List, map}
use Rattle.words.specs.lists.Numbers.{range}
use Rattle.grouping.specs.Classes.{class_of}
use Rattle.minimising.specs.group_numbers.Smaller.{renumbered_label}

-- of n labels each has the lowest one of its class
pub record LowestOfClass (c : List ℕ) (n : ℕ) : Type 0 where
  pub below : (l : ℕ) → l < n → class_of c l ≤ l
  pub own : (l : ℕ) → l < n → class_of c (class_of c l) ≡ class_of c l

-- the numbers of the groups of labels 0 to n - 1
abbrev pub group_numbers : List ℕ → ℕ → List ℕ
group_numbers c n = map (renumbered_label c) (range 0 n)
