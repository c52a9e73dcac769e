-- The frames of an image: ten bytes each, and the text of their bytes.
use Rattle.std.proofs.Common.{◌≡◌, refl, sym, ◌∙◌, ap, List, [], ◌∷◌, ℕ, suc, ◌+◌, ◌*◌, ◌/◌, ◌≤◌, ◌<◌, arith, length, slice_index}
use Rattle.std.proofs.Common.{slice_index_or, flat_map}
use Rattle.std.proofs.lemmas.Grind.{common_steps}
use Rattle.words.specs.lists.Numbers.{range}
use Rattle.std.specs.List.{AllByRecursion}
use Rattle.words.specs.lists.Sequences.{map_from, written}
use Rattle.words.proofs.lists.Ranges.{map-count}
use Rattle.words.proofs.lists.Joins.{all-every, all-append, all-map, all-of, all-at, concat-map, concat-places, length-concat}
use Rattle.words.proofs.lists.Joins.{get_or-concat}
use Rattle.text.specs.frames.Frame.{size, field, ten_bytes_at, frame_text, text_of}
use Rattle.text.proofs.frames.FrameLoops.{length-frame}
use Rattle.text.proofs.frames.TextLoops.{frame_of}
use Rattle.image.specs.Image.{Image, entry_frame, label_frame, row_frame, image_frames, image_text}
use Rattle.translator.specs.inner.LabelBytes.{Put}
use Rattle.translator.specs.inner.ImageBytes.{frames_bytes}
use Rattle.chart_text.proofs.SpreadSteps.{text-spread}

all-from : {A B : Type 0} (P : B → Type 0) (f : ℕ → A → B) → ((k : ℕ) (x : A) → P (f k x)) → (k : ℕ) (xs : List A)
    → AllByRecursion P (map_from f k xs)
unfolding map_from
all-from P f h k [] = tt
all-from P f h k (x ∷ xs) = (h k x, all-from P f h (suc k) xs)

module _ (i : Image) where
  abbrev Ten : List ℕ → Type 0
  Ten bs = length bs ≡ 10

  frames-ten : AllByRecursion Ten (image_frames i)
  unfolding image_frames
  frames-ten = (
    refl,
    all-append Ten (map_from entry_frame 1 i.entries) _ (all-from Ten entry_frame (λ k x. refl) 1 i.entries)
        (all-append Ten (map_from label_frame 0 i.labels) _ (all-from Ten label_frame (λ k x. refl) 0 i.labels)
        (all-map Ten row_frame i.rows (all-every (λ r. Ten (row_frame r)) (λ r. refl) i.rows))),
  )

  pub bytes-length : length (frames_bytes (image_frames i)) ≡ 10 * length (image_frames i)
  bytes-length = length-concat (λ f. f) 10 (image_frames i) frames-ten

  pub image-length : length (image_text i) ≡ 23 * length (image_frames i)
  unfolding image_text
  image-length = grind (arith, common_steps, all-of, length-frame, length-concat, frames-ten)

  frame-at : (f : ℕ) → f < length (image_frames i)
      → ten_bytes_at (frames_bytes (image_frames i)) (0 + f) ≡ slice_index_or (image_frames i) f []
  frame-at f h =
      let ten : length (slice_index_or (image_frames i) f []) ≡ 10 = all-at Ten [] (image_frames i) frames-ten f h in
      map-count (field (frames_bytes (image_frames i)) (0 + f)) 0 (slice_index_or (image_frames i) f []) 0 10 (sym ten) (λ k l.
      ap (λ (j : ℕ). slice_index (frames_bytes (image_frames i)) j) (omega arith)
      ∙ get_or-concat (λ f. f) 10 [] 0 (image_frames i) frames-ten f k h (omega (arith, ten)))

  text-is : text_of (frames_bytes (image_frames i)) ≡ image_text i
  unfolding text_of image_text
  text-is =
      let n : size (frames_bytes (image_frames i)) ≡ length (image_frames i) = omega (arith, bytes-length) in
      concat-map frame_text (ten_bytes_at (frames_bytes (image_frames i))) (range 0 (size (frames_bytes (image_frames i))))
      ∙ ap (λ (k : ℕ). flat_map (frame_of (frames_bytes (image_frames i))) (range 0 k)) n
      ∙ concat-places (frame_of (frames_bytes (image_frames i))) frame_text [] (image_frames i) 0 (λ f h. ap frame_text (frame-at f h))

  -- the bytes of the frames put, and then what the loop leaves
  pub image-spread : (out o₁ : List ℕ) (end : ℕ) → Put out 0 (frames_bytes (image_frames i)) end o₁ → 23 * (end / 10) ≤ length out
      → (o₂ : List ℕ) → o₂ ≡ written o₁ 0 (flat_map (frame_of o₁) (range 0 (end / 10)))
      → Put out 0 (image_text i) (23 * (end / 10)) o₂
  image-spread out o₁ end put room o₂ e = grind (arith, common_steps, text-spread, frame_of, bytes-length, image-length, text-is)
