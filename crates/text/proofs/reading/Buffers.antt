-- What the buffer holds once every frame was stored.
use Rattle.std.proofs.Common.{◌≡◌, refl, sym, ◌∙◌, ap, false, List, [], ◌∷◌, ◌++◌, map, ℕ, ◌%◌, length, arith, flat_map}
use Rattle.std.proofs.lemmas.Grind.{common_steps}
use Rattle.words.specs.lists.Numbers.{range}
use Rattle.words.specs.lists.Sequences.{over}
use Rattle.std.proofs.lemmas.Bool.{cond-false}
use Rattle.words.proofs.lists.Ranges.{map-append}
use Rattle.text.specs.frames.Frame.{byte_at, frame_count, contents}
use Rattle.text.specs.frames.Check.{is_bad_length}
use Rattle.text.specs.frames.Read.{read_buffer}
use Rattle.text.specs.inner.FrameReads.{stored_bytes}

map-concat : (g : ℕ → ℕ) (f : ℕ → List ℕ) (xs : List ℕ) → map g (flat_map f xs) ≡ flat_map (λ x. map g (f x)) xs
map-concat g f [] = refl
map-concat g f (x ∷ xs) = map-append g (f x) (flat_map f xs) ∙ ap (λ (ys : List ℕ). map g (f x) ++ ys) (map-concat g f xs)

contents-stored : (t : List ℕ) → flat_map (stored_bytes t) (range 0 (frame_count t)) ≡ map (λ x. x % 256) (contents t)
unfolding contents
contents-stored t = sym (map-concat (λ x. x % 256) (λ f. map (byte_at t f) (range 0 10)) (range 0 (frame_count t)))

-- 1 does not refuse, and all frames are stored; there is room for them
pub read-all : (most : ℕ) (t old : List ℕ) → is_bad_length 23 most (length t) ≡ false → (out : List ℕ)
    → out ≡ over (flat_map (stored_bytes t) (range 0 (frame_count t))) old → out ≡ read_buffer most t old
unfolding read_buffer
read-all most t old e out q = grind (arith, common_steps, cond-false, contents-stored)

pub ruleset text_read = read-all
