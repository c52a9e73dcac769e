-- Cases of what made a tick go on: on the image of chart P, on the same with scheme 2 as the handler, and on one whose last row is
-- missing; on a patched image; and on one with five rows after a function.
use Rattle.std.specs.Prelude.{ℕ, Bool, true, false, ◌≡◌, List, [], ◌∷◌, set, take}
use Rattle.text.specs.frames.Frame.{contents, text_of}
use Rattle.text.specs.frames.Answer.{success, refusal}
use Rattle.state.specs.State.{State}
use Rattle.state.specs.Changes.{with_bits}
use Rattle.cause.specs.Cause.{CauseOutcome, no_cause, explain}
use Rattle.bench.specs.Bench.{lines, image_p}
use Rattle.bench.specs.RefusalCases.{handler_two, state_with_labels, handling_state}
use Rattle.bench.specs.Patched.{image_equal}

-- row, mask and bit
abbrev pub cause_told : ℕ → ℕ → ℕ → CauseOutcome
cause_told k mask bit = record { reply = success 0; cause = record { row = k; mask = mask; bit = bit } }

abbrev pub cause_told_with_bit : ℕ → ℕ → CauseOutcome
cause_told_with_bit k mask = cause_told k mask 2

abbrev pub no_cause_told : ℕ → CauseOutcome
no_cause_told number = record { reply = refusal number 0 0; cause = no_cause }

-- the image of a function call, label 2, with five rows:
-- for condition 3 set and bit 0, for condition 2 set and bit 1, for condition 0 clear and either bit, for conditions 0 and 1 set and bit
-- 1, for condition 0 set, 1 clear and either bit
unfoldable pub image_answers : List ℕ
image_answers = lines (
    "0F020400070000000000E4" ∷ "10010200000000000000ED" ∷ "10020400000000000000EA" ∷ "11000400010000000000EA"
    ∷ "11010300000000000000EB" ∷ "11020202010000000000E8" ∷ "11030000010000000001EA" ∷ "11040000020200000000E7"
    ∷ "12020008000800000000DC" ∷ "12020004000401030000E0" ∷ "12020001000002030000E6" ∷ "12020003000301000000E5"
    ∷ "12020003000102020000E4" ∷ "12030000000002000000E9" ∷ "12040000000002010000E7" ∷ [])

-- the result bit of number 2 in a state; label l alone, and label 1 above it
abbrev pub with_answer : Bool → State → State
with_answer b s = with_bits s (set s.bits 1 b)

abbrev pub state_standing_at : ℕ → Bool → State
state_standing_at l b = with_answer b (state_with_labels 1 (l ∷ 0 ∷ 0 ∷ []))

abbrev pub returning_state : ℕ → Bool → State
returning_state l b = with_answer b (state_with_labels 2 (l ∷ 1 ∷ 0 ∷ []))

pub record CauseCases : Type 0 where
  -- a condition on 0 and on 1; a return, where label 2 beneath has one row
  pub plain-zero : explain image_p (state_with_labels 2 (2 ∷ 3 ∷ 0 ∷ [])) 0 ≡ cause_told_with_bit 1 1
  pub plain-one : explain image_p (state_with_labels 2 (2 ∷ 3 ∷ 0 ∷ [])) 1 ≡ cause_told_with_bit 2 1
  pub beneath : explain image_p (state_with_labels 2 (2 ∷ 1 ∷ 0 ∷ [])) 0 ≡ cause_told_with_bit 0 0
  -- home, a call, one that finds the stack full, and the handler's return at depth 1
  pub r21-home : explain image_p (state_with_labels 1 (0 ∷ 0 ∷ 0 ∷ [])) 0 ≡ no_cause_told 21
  pub r21-call : explain image_p (state_with_labels 1 (2 ∷ 0 ∷ 0 ∷ [])) 0 ≡ no_cause_told 21
  pub r21-full : explain image_p (state_with_labels 3 (2 ∷ 4 ∷ 4 ∷ [])) 0 ≡ no_cause_told 21
  pub r21-handler : explain handler_two (handling_state 1 (1 ∷ 0 ∷ 0 ∷ [])) 0 ≡ no_cause_told 21
  -- a state that does not fit comes before, a row that is missing after
  pub r21-after-15 : explain image_p (state_with_labels 0 (0 ∷ 0 ∷ 0 ∷ [])) 0 ≡ no_cause_told 15
  pub r18-cause : explain (text_of (take 110 (set (contents image_p) 4 3))) (state_with_labels 3 (2 ∷ 4 ∷ 1 ∷ [])) 0 ≡ no_cause_told 18

-- of a plain label, whatever the result bits are
pub record RowCauses : Type 0 where
  -- of two rows with as many conditions the later one; the other, for conditions 1 and 2, adds neither
  pub tie : explain image_equal (state_standing_at 2 true) 1 ≡ cause_told_with_bit 3 3
  -- the row for conditions 1 and 2; two others are contradicted in condition 0
  pub more : explain image_equal (state_standing_at 2 false) 0 ≡ cause_told_with_bit 1 7
  -- of the conditions that contradict a row the lowest: 1 of 1 and 2, and 0 of 0 and 1
  pub lowest : explain image_equal (state_standing_at 2 true) 6 ≡ cause_told_with_bit 0 3

-- after a function that answered 0 or 1
pub record AnswerCauses : Type 0 where
  -- the row taken asks for neither bit; a row that the bit shuts out and the word contradicts too adds nothing:
  -- condition 3, then condition 2
  pub either-one : explain image_answers (returning_state 2 true) 1 ≡ cause_told 4 7 1
  pub either-zero : explain image_answers (returning_state 2 false) 1 ≡ cause_told 4 11 0
  -- it asks for the bit
  pub asked-one : explain image_answers (returning_state 2 true) 3 ≡ cause_told 3 7 1
  pub asked-zero : explain image_answers (returning_state 2 false) 11 ≡ cause_told 0 11 0
  -- a row that matches with fewer conditions adds nothing, and neither does one that loses a tie
  pub fewer : explain image_answers (returning_state 2 true) 5 ≡ cause_told 4 3 1
  pub tied : explain image_answers (returning_state 2 false) 12 ≡ cause_told 2 1 0
  -- three rows without conditions: the one for either bit stands last
  pub unconditional-zero : explain image_equal (returning_state 4 false) 0 ≡ cause_told 7 0 0
  pub unconditional-one : explain image_equal (returning_state 4 true) 0 ≡ cause_told 7 0 1
