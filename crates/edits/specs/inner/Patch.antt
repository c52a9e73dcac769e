-- Bytes after edits, pairs of a place and the byte put there.
use Rattle.std.specs.Prelude.{ℕ, List, [], ◌∷◌, set}

-- a place past the end changes nothing, and neither does a place without a byte
unfoldable pub patched_bytes : List ℕ → List ℕ → List ℕ
patched_bytes bytes [] = bytes
patched_bytes bytes (at ∷ []) = bytes
patched_bytes bytes (at ∷ b ∷ rest) = patched_bytes (set bytes at b) rest
