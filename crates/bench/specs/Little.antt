-- Cases of the little charts: both of two frames, all of three, some of four, and what 24 and 16 refuse.
use Rattle.std.specs.Prelude.{ℕ, ◌≡◌, List, [], ◌∷◌, map, replicate, slice_index_or}
use Rattle.text.specs.frames.Frame.{text_of}
use Rattle.text.specs.frames.Verdict.{fine}
use Rattle.text.specs.frames.Answer.{buffer_on}
use Rattle.little_charts.specs.Little.{little_charts, little_text, little_chart}
use Rattle.bench.specs.Bench.{lines}
use Rattle.bench.specs.Minimise.{kept_smaller}

unfoldable pub texts_two : List (List ℕ)
texts_two =
    lines ("00010001000000000000FE" ∷ "01010000000000000000FE" ∷ [])
    ∷ lines ("01010000000000000000FE" ∷ "00010000000000000000FF" ∷ [])
    ∷ []

unfoldable pub texts_three : List (List ℕ)
texts_three =
    lines ("00010001000000000000FE" ∷ "02010002000000000000FB" ∷ "01010000000000000000FE" ∷ [])
    ∷ lines ("00010001000000000000FE" ∷ "02010002000000000001FA" ∷ "01010000000000000000FE" ∷ [])
    ∷ lines ("00010001000000000000FE" ∷ "03010002020000000000F8" ∷ "01010000000000000000FE" ∷ [])
    ∷ lines ("00010002000000000000FD" ∷ "01010000000000000000FE" ∷ "02010001000000000000FC" ∷ [])
    ∷ lines ("00010002000000000000FD" ∷ "01010000000000000000FE" ∷ "02010001000000000001FB" ∷ [])
    ∷ lines ("00010002000000000000FD" ∷ "01010000000000000000FE" ∷ "03010001010000000000FA" ∷ [])
    ∷ lines ("01010000000000000000FE" ∷ "00010002000000000000FD" ∷ "02010000000000000000FD" ∷ [])
    ∷ lines ("01010000000000000000FE" ∷ "00010002000000000000FD" ∷ "02010000000000000001FC" ∷ [])
    ∷ lines ("01010000000000000000FE" ∷ "00010002000000000000FD" ∷ "03010000000000000000FC" ∷ [])
    ∷ lines ("01010000000000000000FE" ∷ "02010000000000000000FD" ∷ "00010001000000000000FE" ∷ [])
    ∷ lines ("01010000000000000000FE" ∷ "02010000000000000001FC" ∷ "00010001000000000000FE" ∷ [])
    ∷ lines ("01010000000000000000FE" ∷ "03010000000000000000FC" ∷ "00010001000000000000FE" ∷ [])
    ∷ lines ("02010001000000000000FC" ∷ "01010000000000000000FE" ∷ "00010000000000000000FF" ∷ [])
    ∷ lines ("02010001000000000001FB" ∷ "01010000000000000000FE" ∷ "00010000000000000000FF" ∷ [])
    ∷ lines ("02010002000000000000FB" ∷ "00010000000000000000FF" ∷ "01010000000000000000FE" ∷ [])
    ∷ lines ("02010002000000000001FA" ∷ "00010000000000000000FF" ∷ "01010000000000000000FE" ∷ [])
    ∷ lines ("03010001010000000000FA" ∷ "01010000000000000000FE" ∷ "00010000000000000000FF" ∷ [])
    ∷ lines ("03010002020000000000F8" ∷ "00010000000000000000FF" ∷ "01010000000000000000FE" ∷ [])
    ∷ []

-- numbers 0, 324 and 647 of four frames
unfoldable pub first_four : List ℕ
first_four = lines ("00010001000000000000FE" ∷ "02010002000000000000FB" ∷ "02010003000000000000FA" ∷ "01010000000000000000FE" ∷ [])

unfoldable pub middle_four : List ℕ
middle_four = lines ("02010000000000000000FD" ∷ "00010002000000000000FD" ∷ "03010000030000000000F9" ∷ "01010000000000000000FE" ∷ [])

unfoldable pub last_four : List ℕ
last_four = lines ("03010003030000000000F6" ∷ "03010003000000000000F9" ∷ "00010001000000000000FE" ∷ "01010000000000000000FE" ∷ [])

pub record LittleCases : Type 0 where
  pub two : map text_of (little_charts 2) ≡ texts_two
  pub three : map text_of (little_charts 3) ≡ texts_three
  pub four : (little_text 4 0 ≡ first_four) × (little_text 4 324 ≡ middle_four) × (little_text 4 647 ≡ last_four)
  -- the last of each frame count is written
  pub last-two : (out : List ℕ) → little_chart 2 1 out ≡ buffer_on fine 1 (λ _. slice_index_or texts_two 1 []) out
  pub last-three : (out : List ℕ) → little_chart 3 17 out ≡ buffer_on fine 1 (λ _. slice_index_or texts_three 17 []) out
  pub last-of-four : (out : List ℕ) → little_chart 4 647 out ≡ buffer_on fine 1 (λ _. last_four) out
  -- and the next number is past it
  pub past-two : (out : List ℕ) → little_chart 2 2 out ≡ kept_smaller 24 out
  pub past-three : (out : List ℕ) → little_chart 3 18 out ≡ kept_smaller 24 out
  pub past-four : (out : List ℕ) → little_chart 4 648 out ≡ kept_smaller 24 out
  -- frame counts outside 2 to 4
  pub none : (out : List ℕ) → little_chart 0 0 out ≡ kept_smaller 24 out
  pub one : (out : List ℕ) → little_chart 1 0 out ≡ kept_smaller 24 out
  pub five : (out : List ℕ) → little_chart 5 0 out ≡ kept_smaller 24 out
  -- 16 follows, one character short
  pub short : little_chart 2 0 (replicate 45 9) ≡ kept_smaller 16 (replicate 45 9)
  pub past-first : little_chart 2 2 [] ≡ kept_smaller 24 []
