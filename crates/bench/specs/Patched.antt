-- A chart's image, patched:
-- a special row among its general ones, and then one more with as many conditions and one for either answer of a function.
use Rattle.std.specs.Prelude.{ℕ, ◌≡◌, List, [], ◌∷◌}
use Rattle.results.specs.Results.{no_results}
use Rattle.text.specs.frames.Frame.{contents}
use Rattle.text.specs.frames.Verdict.{fine}
use Rattle.text.specs.frames.Answer.{buffer_on}
use Rattle.image.specs.Check.{image_verdict}
use Rattle.image.specs.Decode.{decoded_image}
use Rattle.translator.specs.Entry.{translate}
use Rattle.rows.specs.Rows.{row}
use Rattle.ticks.specs.Tick.{choice}
use Rattle.runs.specs.Run.{RunOutcome}
use Rattle.bench.specs.Bench.{lines, fresh_run}

-- scheme 1: an operation with mask 1 and then, where condition 0 is clear, one with mask 2, where it is set, function 2: on 0 End, on 1 the
-- operation with mask 2; scheme 2: an operation that writes 1
unfoldable pub chart_plain : List ℕ
chart_plain = lines (
    "00010001000000000000FE" ∷ "02010002000000000001FA" ∷ "03010003040000000000F5" ∷ "02010005000000000002F6"
    ∷ "04010205030000000000F1" ∷ "01010000000000000000FE" ∷ "00020007000000000000F7" ∷ "02020008000200000000F2"
    ∷ "01020000000000000000FD" ∷ [])

unfoldable pub image_plain : List ℕ
image_plain = lines (
    "0F020500060000000000E4" ∷ "10010200000000000000ED" ∷ "10020500000000000000E9" ∷ "11000400010000000000EA"
    ∷ "11010300000000000000EB" ∷ "11020000010000000001EB" ∷ "11030000010000000002E9" ∷ "11040202010000000000E6"
    ∷ "11050000020200000000E6" ∷ "12020001000002030000E6" ∷ "12020001000102040000E4" ∷ "12030000000002000000E9"
    ∷ "12040000000000000000EA" ∷ "12040000000001030000E6" ∷ "12050000000002010000E6" ∷ [])

-- between the two rows of label 2 one for conditions 1 and 2 clear, to label 0
unfoldable pub image_special : List ℕ
image_special = lines (
    "0F020500070000000000E3" ∷ "10010200000000000000ED" ∷ "10020500000000000000E9" ∷ "11000400010000000000EA"
    ∷ "11010300000000000000EB" ∷ "11020000010000000001EB" ∷ "11030000010000000002E9" ∷ "11040202010000000000E6"
    ∷ "11050000020200000000E6" ∷ "12020001000002030000E6" ∷ "12020006000002000000E4" ∷ "12020001000102040000E4"
    ∷ "12030000000002000000E9" ∷ "12040000000000000000EA" ∷ "12040000000001030000E6" ∷ "12050000000002010000E6" ∷ [])

-- and behind them one for condition 0 set and condition 1 clear, to label 3; of label 4, which calls the function, a third row for either
-- bit, to label 2
unfoldable pub image_equal : List ℕ
image_equal = lines (
    "0F020500090000000000E1" ∷ "10010200000000000000ED" ∷ "10020500000000000000E9" ∷ "11000400010000000000EA"
    ∷ "11010300000000000000EB" ∷ "11020000010000000001EB" ∷ "11030000010000000002E9" ∷ "11040202010000000000E6"
    ∷ "11050000020200000000E6" ∷ "12020001000002030000E6" ∷ "12020006000002000000E4" ∷ "12020001000102040000E4"
    ∷ "12020003000102030000E3" ∷ "12030000000002000000E9" ∷ "12040000000000000000EA" ∷ "12040000000001030000E6"
    ∷ "12040000000002020000E6" ∷ "12050000000002010000E6" ∷ [])

-- home, the operation with mask 1 by word w, and the tick to which its row leads
abbrev pub run_led_by : List ℕ → ℕ → RunOutcome
run_led_by image w = fresh_run image 2 (0 ∷ w ∷ 0 ∷ [])

-- by word 3 on to the function, which answers 1, and the tick after its return
unfoldable pub answer_words : List ℕ
answer_words = 0 ∷ 3 ∷ 0 ∷ 0 ∷ 0 ∷ 0 ∷ []

pub record PatchedCases : Type 0 where
  pub translated : (out : List ℕ) → translate chart_plain out ≡ buffer_on fine 1 (λ _. image_plain) out
  pub accepted : (image_verdict image_special ≡ fine) × (image_verdict image_equal ≡ fine)
  -- unpatched, condition 0 alone decides
  pub plain-clear : (run_led_by image_plain 0).masks ≡ 0 ∷ 1 ∷ 2 ∷ []
  pub plain-set : (run_led_by image_plain 1).codes ≡ 4 ∷ 0 ∷ 66 ∷ []
  -- the special row leads home: it has more conditions than the general one before it, and than the one behind it
  pub special-second : (run_led_by image_special 0).codes ≡ 4 ∷ 0 ∷ 4 ∷ []
  pub special-first : (run_led_by image_special 1).codes ≡ 4 ∷ 0 ∷ 4 ∷ []
  -- where it does not match the general rows are taken
  pub general-clear : (run_led_by image_special 2).masks ≡ 0 ∷ 1 ∷ 2 ∷ []
  pub general-set : (run_led_by image_special 3).codes ≡ 4 ∷ 0 ∷ 66 ∷ []
  -- of two with as many conditions the later one
  pub equal-later : (run_led_by image_equal 1).masks ≡ 0 ∷ 1 ∷ 2 ∷ []
  pub equal-alone : (run_led_by image_equal 0).codes ≡ 4 ∷ 0 ∷ 4 ∷ []
  pub equal-number : choice (decoded_image (contents image_equal)) no_results 2 1
      ≡ row 3 (record { from = 2; care = 3; values = 1; bit = 2; next = 3 })
  -- the function bit is no condition: the row for either bit stands later
  pub answer-plain : (fresh_run image_plain 2 answer_words).masks ≡ 0 ∷ 1 ∷ 0 ∷ 0 ∷ 0 ∷ 2 ∷ []
  pub answer-either : (fresh_run image_equal 2 answer_words).masks ≡ 0 ∷ 1 ∷ 0 ∷ 0 ∷ 0 ∷ 1 ∷ []
