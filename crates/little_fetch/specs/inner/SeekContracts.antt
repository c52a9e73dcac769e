-- What the search for a chart asks and promises.
use Rattle.std.specs.Prelude.{ℕ, zero, suc, ◌*◌, ◌≤◌, ◌≡◌, List, [], ◌∷◌, length, Result, Ok, Err, if◌then◌else◌, ◌==◌}
use Rattle.text.specs.declared.frames.sizes.TheConstants.{RECORD}
use Rattle.text.specs.frames.Frame.{size}

-- records of 2 to 4 frames
pub record FewFrames (c : List ℕ) : Type 0 where
  pub whole : length c ≡ RECORD * size c
  pub some : 2 ≤ size c
  pub few : size c ≤ 4

-- of the charts found the one of a number, or how many are left to pass over
unfoldable pub sought : List ℕ → ℕ → Result ℕ ℕ
sought [] left = Err left
sought (x ∷ xs) zero = Ok x
sought (x ∷ xs) (suc left) = sought xs left

-- how many little charts have n frames, 0 for n outside 2 to 4
abbrev pub total : ℕ → ℕ
total n = if n == 2 then 2 else if n == 3 then 18 else if n == 4 then 648 else 0
