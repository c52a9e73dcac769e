-- Frames: 22 characters that are eleven bytes, of which the last makes the sum 0 modulo 256, and a line feed.
use Rattle.std.specs.Prelude.{ℕ, ◌+◌, ◌*◌, ◌-◌, ◌/◌, ◌%◌, List, [], ◌∷◌, ◌++◌, map, length, slice_index, flat_map}
use Rattle.words.specs.lists.Numbers.{range}
use Rattle.text.specs.digits.Digit.{digit_of, char_of}
use Rattle.text.specs.declared.frames.sizes.TheConstants.{LINE, LINE_FEED, FRAME}

-- ---- reading
abbrev pub frame_count : List ℕ → ℕ
frame_count t = length t / LINE

-- byte k of frame f of a text
abbrev pub byte_at : List ℕ → ℕ → ℕ → ℕ
byte_at t f k = 16 * digit_of (slice_index t (LINE * f + 2 * k)) + digit_of (slice_index t (LINE * f + 2 * k + 1))

-- the first ten bytes of each frame: of a chart its node records, of an image its table
unfoldable pub contents : List ℕ → List ℕ
contents t = flat_map (λ f. map (byte_at t f) (range 0 FRAME)) (range 0 (frame_count t))

-- how many frames' bytes these are
abbrev pub size : List ℕ → ℕ
size b = length b / FRAME

-- byte k of frame f among them
abbrev pub field : List ℕ → ℕ → ℕ → ℕ
field b f k = slice_index b (FRAME * f + k)

-- two bytes from k on, the high one first
abbrev pub pair_at : List ℕ → ℕ → ℕ → ℕ
pair_at b f k = field b f k * 256 + field b f (k + 1)

-- and four
abbrev pub quad_at : List ℕ → ℕ → ℕ → ℕ
quad_at b f k = pair_at b f k * 65536 + pair_at b f (k + 2)

-- ---- writing
-- a byte as two digits
abbrev pub byte_text : ℕ → List ℕ
byte_text b = char_of (b / 16) ∷ char_of (b % 16) ∷ []

-- the sum of bytes
unfoldable pub total : List ℕ → ℕ
total [] = 0
total (b ∷ bs) = b + total bs

-- what a frame of these bytes has as its sum
abbrev pub sum_byte : List ℕ → ℕ
sum_byte bs = (256 - total bs % 256) % 256

-- ten bytes as a frame
unfoldable pub frame_text : List ℕ → List ℕ
frame_text bs = flat_map byte_text bs ++ (byte_text (sum_byte bs) ++ (LINE_FEED ∷ []))

-- frames one after the other
abbrev pub frames_text : List (List ℕ) → List ℕ
frames_text = flat_map frame_text

-- the ten bytes of frame f
abbrev pub ten_bytes_at : List ℕ → ℕ → List ℕ
ten_bytes_at b f = map (field b f) (range 0 FRAME)

-- the text of contents
unfoldable pub text_of : List ℕ → List ℕ
text_of b = frames_text (map (ten_bytes_at b) (range 0 (size b)))

-- a number in two bytes
abbrev pub pair : ℕ → List ℕ
pair x = x / 256 ∷ x % 256 ∷ []

-- a number in four bytes
abbrev pub quad : ℕ → List ℕ
quad x = pair (x / 65536) ++ pair (x % 65536)
