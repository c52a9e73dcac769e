-- The lines that the programs print beside an image.
use Rattle.std.specs.Prelude.{ℕ, ◌/◌, ◌%◌, List, [], ◌∷◌, ◌++◌}
use Rattle.text.specs.declared.frames.sizes.TheConstants.{LINE_FEED}
use Rattle.text.specs.frames.Frame.{byte_text, frame_text}

-- a refusal: FF, its number, its index in two bytes, and zeros
unfoldable pub refusal_line : ℕ → ℕ → List ℕ
refusal_line number index = frame_text (255 ∷ number ∷ index / 256 % 256 ∷ index % 256 ∷ 0 ∷ 0 ∷ 0 ∷ 0 ∷ 0 ∷ 0 ∷ [])

-- a tick's code: two digits and a line feed
unfoldable pub code_line : ℕ → List ℕ
code_line code = byte_text code ++ (LINE_FEED ∷ [])
