-- What a function that prints into a lent buffer leaves there.
use Rattle.std.specs.Prelude.{ℕ, ◌≡◌, List, length}
use Rattle.words.specs.lists.Sequences.{over}

-- all of x stands at its front, and how much that is
pub record Prints (x : List ℕ) (count : ℕ) (before after : List ℕ) : Type 0 where
  pub counted : count ≡ length x
  pub written : after ≡ over x before
