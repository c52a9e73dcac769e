-- On the image of a chart just one row matches each label, word and bit. So whatever rule chooses among the rows that match, the machine
-- makes the same ticks there, and the care mask of the row taken decides it.
use Rattle.std.specs.Prelude.{ℕ, ◌-◌, ◌≤◌, ◌<◌, Bool, true, false, ◌≡◌, List, length, take, bit_and, if◌then◌else◌, nat_le, slice_index_or}
use Rattle.results.specs.Results.{Results, with_result}
use Rattle.text.specs.declared.frames.codes.TheConstants.{PLAIN_CODE, RETURN_CODE}
use Rattle.text.specs.frames.Frame.{contents}
use Rattle.text.specs.frames.Answer.{success}
use Rattle.image.specs.Layout.{TickKind, plain, operation_call, function_call, return, home, tick_kind}
use Rattle.image.specs.Image.{Image, Label, Row, no_row, nth_row}
use Rattle.image.specs.Decode.{decoded_image}
use Rattle.translator.specs.Entry.{translate}
use Rattle.rows.specs.Rows.{is_candidate, Choice, row, no_choice, best_row, Found, lead_of}
use Rattle.state.specs.State.{State, label_at, place_at, number_at, Sized}
use Rattle.state.specs.Changes.{with_bits}
use Rattle.fitness.specs.Fitness.{is_unfit}
use Rattle.ticks.specs.Tick.{called_bit, MachineTick, moved_tick, popped_state, popped_tick, tick_by, tick, top_of}
use Rattle.cause.specs.Cause.{Cause}
use Rattle.cause.specs.Laws.{taken_row, Explains}

-- the image that the translator wrote, n characters of its buffer
abbrev pub translated_image : List ℕ → List ℕ → ℕ → Image
translated_image text out n = decoded_image (contents (take n (translate text out).buffer))

-- ---- the row that label l takes by a word and a bit, and no other row matches
pub record Only (l w b : ℕ) (rs : List Row) : Type 0 where
  pub number : ℕ
  pub one : Row
  pub taken : best_row l w b 0 rs ≡ row number one
  pub only : (j : ℕ) → j < length rs → is_candidate l w b (slice_index_or rs j no_row) ≡ true → j ≡ number

unfoldable pub OneRowMatches : Type 0
OneRowMatches =
    (text out : List ℕ) (n : ℕ) → (translate text out).reply ≡ success n → let i = translated_image text out n in
    (l : ℕ) → 2 ≤ l → l < length i.labels → (w : ℕ) (b : Bool) → Only l w (if b then 1 else 0) i.rows

-- ---- which of the rows a label takes by a word and a bit: a row that matches, or none where no row does
abbrev pub Rule : Type 0
Rule = ℕ → ℕ → ℕ → List Row → Choice

abbrev pub Matching : ℕ → ℕ → ℕ → List Row → Choice → Type 0
Matching l w b rs no_choice = (j : ℕ) → j < length rs → is_candidate l w b (slice_index_or rs j no_row) ≡ false
Matching l w b rs (row k r) = (k < length rs) × (slice_index_or rs k no_row ≡ r) × (is_candidate l w b r ≡ true)

abbrev pub TakesMatching : Rule → Type 0
TakesMatching f = (l w b : ℕ) (rs : List Row) → Matching l w b rs (f l w b rs)

-- the machine's tick, but that the rule finds the row, where a plain tick takes one and where a return does
abbrev pub row_by : Rule → Image → Results → ℕ → ℕ → Found
row_by f i b l w = lead_of (f l w (called_bit i b l) i.rows)

abbrev pub popped_tick_by : Rule → Image → State → ℕ → ℕ → Results → Bool → MachineTick
popped_tick_by f i s w m b true = popped_tick i s w m b true
popped_tick_by f i s w m b false = moved_tick m RETURN_CODE (popped_state s b) (s.depth - 2) (row_by f i b (place_at s (s.depth - 2)) w)

abbrev pub tick_by_rule : Rule → Image → State → ℕ → ℕ → Label → Results → TickKind → MachineTick
tick_by_rule f i s w l x b plain = moved_tick x.mask PLAIN_CODE (with_bits s b) (s.depth - 1) (row_by f i b l w)
tick_by_rule f i s w l x b operation_call = tick_by i s w l x b operation_call
tick_by_rule f i s w l x b function_call = tick_by i s w l x b function_call
tick_by_rule f i s w l x b return = popped_tick_by f i s w x.mask b (nat_le s.depth 1)
tick_by_rule f i s w l x b home = tick_by i s w l x b home

abbrev pub tick_with : Rule → Image → State → ℕ → MachineTick
tick_with f i s w = let l = top_of s in let x = label_at i l in
    tick_by_rule f i s w l x (with_result x.result (number_at s (s.depth - 1)) s.bits) (tick_kind x.kind)

-- by every such rule, of every state that fits
unfoldable pub AnyRuleTicks : Type 0
AnyRuleTicks =
    (text out : List ℕ) (n : ℕ) → (translate text out).reply ≡ success n → (f : Rule) → TakesMatching f
    → let i = translated_image text out n in
    (s : State) → Sized s → is_unfit i s ≡ false → (w : ℕ) → tick_with f i s w ≡ tick i s w

-- ---- every word that agrees on the care mask of the row that a cause names takes that row
unfoldable pub CareDecides : Type 0
CareDecides =
    (text out : List ℕ) (n : ℕ) → (translate text out).reply ≡ success n → (s : State) (w : ℕ) (c : Cause)
    → Explains (take n (translate text out).buffer) s w c → let i = translated_image text out n in
    (v : ℕ) → bit_and v (nth_row i c.row).care ≡ bit_and w (nth_row i c.row).care → taken_row i s v ≡ row c.row (nth_row i c.row)
