-- What a cause says of the tick that it explains: on every accepted image and from every state that fits it.
use Rattle.std.specs.Prelude.{ℕ, true, false, ◌≡◌, ◌↔◌, ◌⊎◌, List}
use Rattle.std.specs.Int.Bits.{bit_and}
use Rattle.std.specs.Int.{bit_at}
use Rattle.text.specs.declared.frames.refusals.TheConstants.{NO_ROW, ROWLESS}
use Rattle.text.specs.frames.Frame.{contents}
use Rattle.text.specs.frames.Verdict.{fine}
use Rattle.text.specs.frames.Answer.{success}
use Rattle.image.specs.Image.{Image, Row, nth_row}
use Rattle.image.specs.Decode.{decoded_image}
use Rattle.image.specs.Check.{image_verdict}
use Rattle.rows.specs.Rows.{Choice, row, no_choice}
use Rattle.state.specs.State.{State, label_at, Sized}
use Rattle.fitness.specs.Fitness.{is_call, is_unfit}
use Rattle.ticks.specs.Tick.{choice, MachineTick, finished, stopped, tick, top_of}
use Rattle.cause.specs.Cause.{Leaving, leaves_label, nothing, leaving, Cause, because, unexplained, cause_of, explain}

-- an accepted image, patched or not, and a state that fits it
pub record Fitting (text : List ℕ) (s : State) : Type 0 where
  pub accepted : image_verdict text ≡ fine
  pub sized : Sized s
  pub fits : is_unfit (decoded_image (contents text)) s ≡ false

-- the row that the tick on s takes by a word, with its number
abbrev pub taken_row_from : Image → State → ℕ → Leaving → Choice
taken_row_from i s w (leaves_label l) = choice i s.bits l w
taken_row_from i s w nothing = no_choice

abbrev pub taken_row : Image → State → ℕ → Choice
taken_row i s w = taken_row_from i s w (leaving i s)

-- c is what made the tick on s go on by the word w
pub record Explains (text : List ℕ) (s : State) (w : ℕ) (c : Cause) : Type 0 where
  pub fitting : Fitting text s
  pub because : cause_of (decoded_image (contents text)) s w ≡ because c

-- every word that agrees on the mask takes from the same state the same row, the one reported
unfoldable pub SameRow : Type 0
SameRow =
    (text : List ℕ) (s : State) (w : ℕ) (c : Cause) → Explains text s w c → (v : ℕ) → bit_and v c.mask ≡ bit_and w c.mask
    → let i = decoded_image (contents text) in taken_row i s v ≡ row c.row (nth_row i c.row)

-- and its tick is the same: mask, code and state
unfoldable pub SameTick : Type 0
SameTick =
    (text : List ℕ) (s : State) (w : ℕ) (c : Cause) → Explains text s w c → (v : ℕ) → bit_and v c.mask ≡ bit_and w c.mask
    → let i = decoded_image (contents text) in tick i s v ≡ tick i s w

-- the tick is finished, and label l is then on top
abbrev pub Arrives : MachineTick → ℕ → Type 0
Arrives (finished m code t) l = top_of t ≡ l
Arrives (stopped n) l = ⊥

-- the row reported is the one that the tick takes, with its number
unfoldable pub RowTaken : Type 0
RowTaken =
    (text : List ℕ) (s : State) (w : ℕ) (c : Cause) → Explains text s w c
    → let i = decoded_image (contents text) in taken_row i s w ≡ row c.row (nth_row i c.row)

-- and it leads to the label that is then on top
unfoldable pub RowLeads : Type 0
RowLeads =
    (text : List ℕ) (s : State) (w : ℕ) (c : Cause) → Explains text s w c
    → let i = decoded_image (contents text) in Arrives (tick i s w) (nth_row i c.row).next

-- no condition of the row's own care mask can be left out: a word with another value there takes another row, or none
unfoldable pub CareNeeded : Type 0
CareNeeded =
    (text : List ℕ) (s : State) (w : ℕ) (c : Cause) → Explains text s w c
    → let i = decoded_image (contents text) in (j : ℕ) → bit_at (nth_row i c.row).care j ≡ 1 → (v : ℕ) → (bit_at v j ≡ bit_at w j → ⊥)
    → (r : Row) → taken_row i s v ≡ row c.row r → ⊥

-- a tick that takes no row: at home, at a call, whether the stack is full or not, and on the handler's return
pub data Rowless (i : Image) (s : State) : Type 0 where
  at_home_label : top_of s ≡ 0 → Rowless i s
  at_call_label : is_call (label_at i (top_of s)) ≡ true → Rowless i s
  at_last_return : top_of s ≡ 1 → s.depth ≡ 1 → Rowless i s

-- no cause is told with 21 exactly of a tick that takes no row, which is then the same by every word, and with 18 exactly where the tick
-- gets 18
pub record RefusedCause (i : Image) (s : State) (w : ℕ) : Type 0 where
  pub rowless : (cause_of i s w ≡ unexplained ROWLESS) ↔ Rowless i s
  pub unread : cause_of i s w ≡ unexplained ROWLESS → (v : ℕ) → tick i s v ≡ tick i s w
  pub unmatched : (cause_of i s w ≡ unexplained NO_ROW) ↔ (tick i s w ≡ stopped NO_ROW)
  pub only : (n : ℕ) → cause_of i s w ≡ unexplained n → (n ≡ ROWLESS) ⊎ (n ≡ NO_ROW)

unfoldable pub RefusedExactly : Type 0
RefusedExactly = (text : List ℕ) (s : State) (w : ℕ) → Fitting text s → RefusedCause (decoded_image (contents text)) s w

-- what success of the entry point says: what is reported is the cause, so that the laws speak of it
unfoldable pub CauseTold : Type 0
CauseTold =
    (t : List ℕ) (s : State) (w n : ℕ) → Sized s → (explain t s w).reply ≡ success n → Explains t s w (explain t s w).cause
