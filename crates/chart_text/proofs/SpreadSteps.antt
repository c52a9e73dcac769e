-- Frames that stand as bytes at the front of a buffer, and then as text: the loop from the last frame down, and all frames.
use Rattle.std.proofs.Common.{◌≡◌, refl, sym, ◌∙◌, ap, List, ◌++◌, ℕ, suc, ◌+◌, ◌*◌, ◌-◌, ◌≤◌, ◌<◌, arith, length, drop, slice_index}
use Rattle.std.proofs.Common.{flat_map}
use Rattle.std.proofs.Common.{length-take, drop-drop, get_or-take}
use Rattle.std.proofs.Math.ListN.{get_or-append}
use Rattle.std.proofs.lemmas.Grind.{common_steps}
use Rattle.words.specs.lists.Numbers.{range}
use Rattle.words.specs.lists.Sequences.{written}
use Rattle.words.proofs.lists.Ranges.{length-range, map-count, get_or-range, get_or-map-range}
use Rattle.words.proofs.lists.Joins.{concat-cons, concat-map, concat-places, length-concat-range}
use Rattle.words.proofs.lists.Written.{written-none, written-drop, written-front, written-before}
use Rattle.text.specs.frames.Frame.{size, ten_bytes_at, frame_text, text_of}
use Rattle.text.proofs.frames.FrameLoops.{length-frame}
use Rattle.text.proofs.frames.TextLoops.{frame_of, length-text}

-- ---- the loop
written-kept : (out vs : List ℕ) (at k : ℕ) → k < at → at ≤ length out → slice_index (written out at vs) k ≡ slice_index out k
unfolding written
written-kept out vs at k h room = grind (arith, common_steps, get_or-take, length-take, get_or-append)

-- frames f to n - 1 stand as text in their place, and what is before them has not changed
pub record Spread (out₀ out : List ℕ) (n f : ℕ) : Type 0 where
  pub low : f ≤ n
  pub size : length out ≡ length out₀
  pub buffer : out ≡ written out₀ (23 * f) (flat_map (frame_of out₀) (range f (n - f)))

pub spread-none : (out : List ℕ) (n : ℕ) → Spread out out n n
spread-none out n = grind (arith, common_steps, written-none, frame_of)

module _ (out₀ out : List ℕ) (n f : ℕ) (s : Spread out₀ out n f) (room : 23 * n ≤ length out₀) where
  -- the text of later frames lies behind the bytes of frame g
  kept-ten : (g : ℕ) → g < f → ten_bytes_at out g ≡ ten_bytes_at out₀ g
  kept-ten g h = grind (arith, common_steps, frame_of, map-count, get_or-map-range, written-kept)

  pub spread-turn : (out' : List ℕ) (g : ℕ) → f ≡ g + 1 → length out' ≡ length out
      → out' ≡ written out (23 * g) (frame_text (ten_bytes_at out g))
      → Spread out₀ out' n g
  spread-turn out' g e m w =
      let later : List ℕ = flat_map (frame_of out₀) (range f (n - f)) in
      let l : length (frame_of out₀ g) ≡ 23 = length-frame (ten_bytes_at out₀ g) refl in
      let k : length later ≡ 23 * (n - f) = length-frames f (n - f) in
      let p : 23 * f ≡ 23 * g + length (frame_of out₀ g) = omega arith in
      let a : flat_map (frame_of out₀) (range g (n - g)) ≡ frame_of out₀ g ++ later =
      ap (λ (j : ℕ). flat_map (frame_of out₀) (range g j)) (count-more g e)
      ∙ concat-cons (frame_of out₀) g (range (suc g) (n - f))
      ∙ ap (λ (j : ℕ). frame_of out₀ g ++ flat_map (frame_of out₀) (range j (n - f))) (omega arith) in
      record {
        low = omega (arith, s.low);
        size = m ∙ s.size;
        buffer =
            w ∙ ap (λ (x : List ℕ). written out (23 * g) (frame_text x)) (kept-ten g (omega arith))
            ∙ ap (λ (x : List ℕ). written x (23 * g) (frame_of out₀ g)) s.buffer
            ∙ written-before out₀ (23 * g) (frame_of out₀ g) later (23 * f) p (omega (arith, s.low))
            ∙ ap (written out₀ (23 * g)) (sym a);
      }
    where
      length-frames : (i j : ℕ) → length (flat_map (frame_of out₀) (range i j)) ≡ 23 * j
      length-frames i j = length-concat-range (frame_of out₀) 23 i j (λ k. length-frame (ten_bytes_at out₀ k) refl)

      count-more : (g : ℕ) → f ≡ g + 1 → n - g ≡ suc (n - f)
      count-more g e = omega (arith, s.low)

pub ruleset spreading = (spread-none, spread-turn)

-- ---- all frames: the bytes of contents, and then what the loop leaves
module _ (b out o₁ : List ℕ) (whole : length b ≡ 10 * size b) (room : 23 * size b ≤ length out) (put : o₁ ≡ written out 0 b) where
  front : (k : ℕ) → k < length b → slice_index o₁ k ≡ slice_index b k
  front k h = grind (arith, common_steps, get_or-append, written-front)

  ten-is : (f : ℕ) → f < size b → ten_bytes_at o₁ f ≡ ten_bytes_at b f
  ten-is f h = grind (arith, common_steps, map-count, get_or-map-range, front)

  text-is : flat_map (frame_of o₁) (range 0 (size b)) ≡ text_of b
  unfolding text_of
  text-is =
      ap (λ (n : ℕ). flat_map (frame_of o₁) (range 0 n)) (sym (length-range 0 (size b)))
      ∙ concat-places (frame_of o₁) (frame_of b) 0 (range 0 (size b)) 0 (λ i l.
      let inside : i < size b = omega (arith, length-range 0 (size b)) in
      ap frame_text (ten-is (0 + i) (omega arith)) ∙ ap (frame_of b) (sym (get_or-range 0 (size b) i 0 inside)))
      ∙ sym (concat-map frame_text (ten_bytes_at b) (range 0 (size b)))

  behind : drop (length (text_of b)) o₁ ≡ drop (length (text_of b)) out
  behind =
      let m : ℕ = length (text_of b) - length b in
      let e : length (text_of b) ≡ 0 + length b + m = omega (arith, length-text b) in
      ap (λ (k : ℕ). drop k o₁) e ∙ sym (drop-drop m (0 + length b) o₁)
      ∙ ap (λ (x : List ℕ). drop m x)
      (ap (λ (x : List ℕ). drop (0 + length b) x) put ∙ written-drop out 0 b (omega arith))
      ∙ drop-drop m (0 + length b) out ∙ ap (λ (k : ℕ). drop k out) (sym e)

  pub text-spread : (o₂ : List ℕ) → o₂ ≡ written o₁ 0 (flat_map (frame_of o₁) (range 0 (size b))) → o₂ ≡ written out 0 (text_of b)
  text-spread o₂ e = grind (arith, common_steps, written-front, text-is, behind)
