-- The loop that writes the text of contents, frame by frame.
use Rattle.std.proofs.Common.{◌≡◌, ◌∙◌, ap, List, ℕ, ◌+◌, ◌*◌, ◌≤◌, ◌<◌, arith, length}
use Rattle.std.proofs.lemmas.Grind.{common_steps}
use Rattle.words.specs.lists.Sequences.{written}
use Rattle.words.proofs.lists.Joins.{concat-map, length-concat-range}
use Rattle.words.proofs.lists.Ranges.{length-map-range}
use Rattle.words.proofs.lists.Fills.{Pieces, pieces-turn, pieces-all}
use Rattle.text.specs.frames.Frame.{size, field, ten_bytes_at, frame_text, text_of}
use Rattle.text.proofs.frames.FrameLoops.{length-frame}

abbrev pub frame_of : List ℕ → ℕ → List ℕ
frame_of b f = frame_text (ten_bytes_at b f)

pub frame-put : (b ten out out' : List ℕ) (at f : ℕ) → ten ≡ ten_bytes_at b f
    → out' ≡ written out at (frame_text ten) → out' ≡ written out at (frame_of b f)
frame-put b ten out out' at f e q = q ∙ ap (λ (xs : List ℕ). written out at (frame_text xs)) e

module _ (b out₀ out : List ℕ) (at n f : ℕ) (done : Pieces (frame_of b) 23 out₀ out at n f) where
  pub text-turn : (out' : List ℕ) → at + 23 * n ≤ length out₀ → f < n → length out' ≡ length out
      → out' ≡ written out (at + f * 23) (frame_of b f)
      → Pieces (frame_of b) 23 out₀ out' at n (f + 1)
  text-turn out' room h s e =
      let long : (k : ℕ) → length (frame_of b k) ≡ 23 = λ k. length-frame (ten_bytes_at b k) (length-map-range (field b k) 0 10) in
      pieces-turn (frame_of b) 23 out₀ at n long out out' f (at + f * 23) done h (omega arith) (omega arith) s e

  pub text-end : n ≡ size b → n ≤ f → out ≡ written out₀ at (text_of b)
  unfolding text_of
  text-end e h = grind (arith, common_steps, pieces-all, concat-map)

pub length-text : (b : List ℕ) → length (text_of b) ≡ 23 * size b
unfolding text_of
length-text b = grind (arith, common_steps, length-concat-range, length-frame, concat-map, length-map-range)
