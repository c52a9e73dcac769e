-- Refusals 12 and 13 of one frame together.
use Rattle.std.specs.Prelude.{ℕ, Bool, ◌||◌, List}
use Rattle.image.specs.Check.{is_stray, has_bad_content}

-- 12 or 13 refuses frame f
abbrev pub is_faulty : List ℕ → ℕ → Bool
is_faulty b f = is_stray b f || has_bad_content b f
