-- What sends a tick on: the row that it takes, the conditions that decide it, and the result bit; refusals 21 and 18.
use Rattle.std.specs.Prelude.{ℕ, ◌-◌, ◌^◌, Bool, ◌&&◌, ◌||◌, not, ◌≡◌, List, [], ◌∷◌, Result, Ok, Err, if◌then◌else◌, nat_le, ◌==◌}
use Rattle.std.specs.Int.Bits.{bit_or}
use Rattle.words.specs.lists.Numbers.{lowest}
use Rattle.std.specs.Int.{bit_at}
use Rattle.words.specs.bits.Word.{is_agreeing}
use Rattle.results.specs.Results.{Results}
use Rattle.text.specs.declared.frames.refusals.TheConstants.{UNFIT, NO_ROW, ROWLESS}
use Rattle.text.specs.declared.frames.refusals.Refusal.{Refusal}
use Rattle.text.specs.frames.Frame.{contents}
use Rattle.text.specs.frames.Verdict.{Verdict, fine, refused, next, when}
use Rattle.text.specs.frames.Answer.{Reply, success, refusal, answer_reply}
use Rattle.image.specs.Layout.{TickKind, plain, operation_call, function_call, return, home, tick_kind}
use Rattle.image.specs.declared.layout.TheConstants.{NO_BIT, FUNCTION_CALL}
use Rattle.image.specs.Image.{Image, Row}
use Rattle.image.specs.Decode.{decoded_image}
use Rattle.image.specs.Check.{image_verdict}
use Rattle.rows.specs.Rows.{Choice, row, no_choice}
use Rattle.state.specs.State.{State, label_at, place_at}
use Rattle.fitness.specs.Fitness.{is_unfit}
use Rattle.ticks.specs.Tick.{called_bit, choice}
use Rattle.cause.specs.declared.Cause as declared

-- condition i is in the care mask and has another value in the word
abbrev pub is_differing : ℕ → ℕ → ℕ → ℕ → Bool
is_differing w care values i = bit_at care i == 1 && not (bit_at w i == bit_at values i)

-- a row of label l that the bit lets through and the word contradicts
abbrev pub is_contradicted : ℕ → ℕ → ℕ → Row → Bool
is_contradicted l w b r = r.from == l && ((r.bit == NO_BIT || r.bit == b) && not (is_agreeing w r.care r.values))

-- the lowest contradicting condition of such a row, as a mask; those of all rows, joined:
-- the row taken and a matching row that loses add none
abbrev pub mask_against : ℕ → ℕ → ℕ → Row → ℕ
mask_against l w b r = if is_contradicted l w b r then 2 ^ lowest (is_differing w r.care r.values) 0 16 else 0

unfoldable pub mask_against_all : ℕ → ℕ → ℕ → List Row → ℕ
mask_against_all l w b [] = 0
mask_against_all l w b (r ∷ rs) = bit_or (mask_against l w b r) (mask_against_all l w b rs)

-- the label whose row a tick takes: the top of a plain tick, the one beneath on a return; none at home, at a call, and on a return at
-- depth 1
pub data Leaving : Type 0 where
  leaves_label : ℕ → Leaving
  nothing : Leaving

abbrev pub leaving_by : State → TickKind → Leaving
leaving_by s plain = leaves_label (place_at s (s.depth - 1))
leaving_by s operation_call = nothing
leaving_by s function_call = nothing
leaving_by s return = if nat_le s.depth 1 then nothing else leaves_label (place_at s (s.depth - 2))
leaving_by s home = nothing

unfoldable pub leaving : Image → State → Leaving
leaving i s = leaving_by s (tick_kind (label_at i (place_at s (s.depth - 1))).kind)

-- the row's number among those of the image, the mask of conditions, and the result bit, 2 where none decides
pub record Cause : Type 0 where
  pub row : ℕ
  pub mask : ℕ
  pub bit : ℕ

-- a cause, or the number that refuses one
pub data Caused : Type 0 where
  because : Cause → Caused
  unexplained : ℕ → Caused

-- of the row chosen among those of label l, whose tick kind is given, with the bit of the number that it calls
abbrev pub cause_by : List Row → ℕ → ℕ → ℕ → ℕ → Choice → Caused
cause_by rs kind l w b (row k r) = because (record {
  row = k;
  mask = bit_or r.care (mask_against_all l w b rs);
  bit = if kind == FUNCTION_CALL then b else NO_BIT;
})
cause_by rs kind l w b no_choice = unexplained NO_ROW

abbrev pub cause_at : Image → Results → ℕ → Leaving → Caused
cause_at i b w (leaves_label l) = cause_by i.rows (label_at i l).kind l w (called_bit i b l) (choice i b l w)
cause_at i b w nothing = unexplained ROWLESS

unfoldable pub cause_of : Image → State → ℕ → Caused
cause_of i s w = cause_at i s.bits w (leaving i s)

-- what the entry point answers: what the image check tries, 15, 21 and 18; with a refusal the cause is 0 throughout
pub record CauseOutcome : Type 0 where
  pub reply : Reply
  pub cause : Cause

abbrev pub no_cause : Cause
no_cause = record { row = 0; mask = 0; bit = 0 }

abbrev pub cause_outcome : Caused → CauseOutcome
cause_outcome (because c) = record { reply = success 0; cause = c }
cause_outcome (unexplained n) = record { reply = refusal n 0 0; cause = no_cause }

abbrev pub cause_on : Verdict → (Unit {0} → Caused) → CauseOutcome
cause_on (refused k n) go = record { reply = refusal k n 0; cause = no_cause }
cause_on fine go = cause_outcome (go tt)

unfoldable pub explain : List ℕ → State → ℕ → CauseOutcome
explain t s w =
    cause_on (next (image_verdict t) λ _. when UNFIT (is_unfit (decoded_image (contents t)) s))
    (λ _. cause_of (decoded_image (contents t)) s w)

-- the cause, or why none is told
abbrev pub CauseAnswer : Type 0
CauseAnswer = Result declared.Cause Refusal

-- a cause counts nothing
abbrev pub cause_reply : CauseAnswer → Reply
cause_reply a = answer_reply a 0

-- row, mask and bit, each 0 with a refusal
abbrev pub cause_row : CauseAnswer → ℕ
cause_row (Ok c) = c.row
cause_row (Err r) = 0

abbrev pub cause_mask : CauseAnswer → ℕ
cause_mask (Ok c) = c.mask
cause_mask (Err r) = 0

abbrev pub cause_bit : CauseAnswer → ℕ
cause_bit (Ok c) = c.bit
cause_bit (Err r) = 0

pub record GivesCause (x : CauseOutcome) (r : CauseAnswer) : Type 0 where
  pub answered : cause_reply r ≡ x.reply
  pub row : cause_row r ≡ x.cause.row
  pub mask : cause_mask r ≡ x.cause.mask
  pub bit : cause_bit r ≡ x.cause.bit
