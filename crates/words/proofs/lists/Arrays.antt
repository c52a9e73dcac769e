-- Loops that fill an array held by value, one element after the other.
use Rattle.std.proofs.Common.{◌≡◌, List, map, ℕ, ◌≤◌, ◌<◌, arith, length, slice_index_or}
use Rattle.std.proofs.Common.{ext_get_or}
use Rattle.std.proofs.lemmas.Grind.{common_steps}
use Rattle.words.specs.lists.Numbers.{range}
use Rattle.words.proofs.lists.Ranges.{length-map-range, get_or-map-range}

-- the first k of n elements are the values of f
pub record Filled {A : Type 0} (f : ℕ → A) (d : A) (xs : List A) (n k : ℕ) : Type 0 where
  pub low : k ≤ n
  pub size : length xs ≡ n
  pub each : (j : ℕ) → j < k → slice_index_or xs j d ≡ f j

module _ {A : Type 0} (f : ℕ → A) (d : A) (n : ℕ) where
  pub filled-all : (xs : List A) (k : ℕ) → Filled f d xs n k → n ≤ k → xs ≡ map f (range 0 n)
  filled-all xs k w h = grind (arith, common_steps, get_or-map-range f d 0 n, length-map-range f 0 n, ext_get_or d xs)
