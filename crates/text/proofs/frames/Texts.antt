-- A text of frames: its length, its bytes, that it passes refusals 1 to 3, and its contents.
use Rattle.std.proofs.Common.{ℕ, ◌+◌, ◌*◌, ◌%◌, ◌≤◌, ◌<◌, false, ◌≡◌, sym, ◌∙◌, ap, ap₂, List, [], map, arith, length, le-ltb, slice_index, slice_index_or, flat_map}
use Rattle.std.proofs.Common.{eq-eqb, ne_eqb}
use Rattle.std.proofs.lemmas.Grind.{common_steps}
use Rattle.words.specs.lists.Numbers.{range}
use Rattle.std.specs.List.{AllByRecursion}
use Rattle.words.proofs.lists.Ranges.{map-count}
use Rattle.words.proofs.lists.Joins.{all-at, all-of, length-concat, get_or-concat, concat-places}
use Rattle.text.specs.frames.Frame.{byte_at, frame_count, contents, field, frame_text, frames_text}
use Rattle.text.specs.frames.Verdict.{fine}
use Rattle.text.specs.frames.Check.{is_bad_length, has_bad_form, has_bad_sum, text_verdict}
use Rattle.text.proofs.frames.Verdicts.{at-none}
use Rattle.text.proofs.frames.Frames.{Frame, frame-length, eleven-at, byte-is, good-form, good-sum}

abbrev same : List ℕ → List ℕ
same bs = bs

pub length-good : (unit most n : ℕ) → (n ≡ 0 → ⊥) → n % unit ≡ 0 → n ≤ most → is_bad_length unit most n ≡ false
length-good unit most n some whole fits = simp (ne_eqb n 0 some, eq-eqb (n % unit) 0 whole, le-ltb most n fits)

module _ (fs : List (List ℕ)) (F : AllByRecursion Frame fs) where
  lengths : AllByRecursion (λ bs. length (frame_text bs) ≡ 23) fs
  lengths = all-of Frame (λ bs. length (frame_text bs) ≡ 23) frame-length fs F

  tens : AllByRecursion (λ bs. length bs ≡ 10) fs
  tens = all-of Frame (λ bs. length bs ≡ 10) (λ bs f. f.ten) fs F

  pub text-length : length (frames_text fs) ≡ 23 * length fs
  text-length = length-concat frame_text 23 fs lengths

  pub text-count : frame_count (frames_text fs) ≡ length fs
  text-count = omega (arith, text-length)

  frame-of : (f : ℕ) → f < length fs → Frame (slice_index_or fs f [])
  frame-of f h = all-at Frame [] fs F f h

  pub text-here : (f : ℕ) → f < length fs → (k : ℕ) → k < 23 → slice_index (frames_text fs) (23 * f + k) ≡ slice_index (frame_text (slice_index_or fs f []))
      k
  text-here f h k l = get_or-concat frame_text 23 [] 0 fs lengths f k h l

  pub text-byte : (f k : ℕ) → f < length fs → k < 10 → byte_at (frames_text fs) f k ≡ slice_index (slice_index_or fs f []) k
  text-byte f k h l = grind (arith, common_steps, eleven-at (slice_index_or fs f []) (frame-of f h) k l, byte-is (slice_index_or fs f []) (frame-of f h), frame-of f h, text-here f h)

  pub text-forms : (f : ℕ) → f < length fs → has_bad_form (frames_text fs) f ≡ false
  text-forms f h = good-form (slice_index_or fs f []) (frame-of f h) (frames_text fs) f (text-here f h)

  pub text-sums : (f : ℕ) → f < length fs → has_bad_sum (frames_text fs) f ≡ false
  text-sums f h = good-sum (slice_index_or fs f []) (frame-of f h) (frames_text fs) f (text-here f h)

  pub text-fine : (most : ℕ) → 1 ≤ length fs → 23 * length fs ≤ most → text_verdict most (frames_text fs) ≡ fine
  unfolding text_verdict
  text-fine most some fits = grind (arith, common_steps, at-none, length-good, text-length, text-count, text-forms, text-sums)

  -- the contents are the frames' bytes, joined
  pub text-contents : contents (frames_text fs) ≡ flat_map same fs
  unfolding contents
  text-contents =
      let t : List ℕ = frames_text fs in
      ap (λ (n : ℕ). flat_map (λ f. map (byte_at t f) (range 0 10)) (range 0 n)) text-count
      ∙ concat-places (λ f. map (byte_at t f) (range 0 10)) same [] fs 0 (λ f h.
      map-count (byte_at t (0 + f)) 0 (slice_index_or fs f []) 0 10 (sym (frame-of f h).ten) (λ k l.
      ap₂ (byte_at t) (omega arith) (omega arith) ∙ text-byte f k h (omega (arith, (frame-of f h).ten))))

  pub contents-length : length (contents (frames_text fs)) ≡ 10 * length fs
  contents-length = ap length text-contents ∙ length-concat same 10 fs tens

  pub contents-at : (f k : ℕ) → f < length fs → k < 10 → field (contents (frames_text fs)) f k ≡ slice_index (slice_index_or fs f []) k
  contents-at f k h l = ap (λ (b : List ℕ). field b f k) text-contents ∙ get_or-concat same 10 [] 0 fs tens f k h l
