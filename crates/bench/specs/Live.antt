-- Cases of prepared tables and of live ticks: on the table of chart P, on that table with a handler, and damaged.
use Rattle.std.specs.Prelude.{ℕ, ◌+◌, ◌*◌, ◌≡◌, List, [], ◌∷◌, ◌++◌, replicate, set, take}
use Rattle.text.specs.frames.Frame.{contents}
use Rattle.text.specs.frames.Answer.{success, refusal}
use Rattle.image.specs.Decode.{decoded_image}
use Rattle.tables.specs.Prepare.{prepare}
use Rattle.tables.specs.Table.{table_image}
use Rattle.state.specs.State.{State}
use Rattle.runs.specs.TickOutcome.{TickOutcome}
use Rattle.runs.specs.machine.Live.{live_tick}
use Rattle.bench.specs.Bench.{image_p}
use Rattle.bench.specs.RefusalCases.{state_with_labels, handling_state, changed_image}

-- the table of chart P: header, entries, labels with the frames at which their rows end, rows
unfoldable pub bytes_p : List ℕ
bytes_p =
    15 ∷ 2 ∷ 4 ∷ 0 ∷ 4 ∷ 0 ∷ 0 ∷ 0 ∷ 0 ∷ 0
    ∷ 16 ∷ 1 ∷ 2 ∷ 0 ∷ 0 ∷ 0 ∷ 0 ∷ 0 ∷ 0 ∷ 0
    ∷ 16 ∷ 2 ∷ 3 ∷ 0 ∷ 0 ∷ 0 ∷ 0 ∷ 0 ∷ 0 ∷ 0
    ∷ 8 ∷ 0 ∷ 4 ∷ 0 ∷ 1 ∷ 0 ∷ 0 ∷ 0 ∷ 0 ∷ 0
    ∷ 8 ∷ 0 ∷ 3 ∷ 0 ∷ 0 ∷ 0 ∷ 0 ∷ 0 ∷ 0 ∷ 0
    ∷ 9 ∷ 0 ∷ 1 ∷ 2 ∷ 1 ∷ 0 ∷ 0 ∷ 0 ∷ 0 ∷ 1
    ∷ 11 ∷ 0 ∷ 0 ∷ 0 ∷ 2 ∷ 0 ∷ 0 ∷ 0 ∷ 0 ∷ 0
    ∷ 12 ∷ 0 ∷ 1 ∷ 2 ∷ 2 ∷ 0 ∷ 0 ∷ 0 ∷ 0 ∷ 2
    ∷ 18 ∷ 2 ∷ 0 ∷ 0 ∷ 0 ∷ 0 ∷ 2 ∷ 0 ∷ 0 ∷ 0
    ∷ 18 ∷ 3 ∷ 0 ∷ 1 ∷ 0 ∷ 0 ∷ 2 ∷ 1 ∷ 0 ∷ 0
    ∷ 18 ∷ 3 ∷ 0 ∷ 1 ∷ 0 ∷ 1 ∷ 2 ∷ 4 ∷ 0 ∷ 0
    ∷ 18 ∷ 4 ∷ 0 ∷ 0 ∷ 0 ∷ 0 ∷ 2 ∷ 1 ∷ 0 ∷ 0 ∷ []

-- byte k of frame f changed to x
abbrev pub damaged_table : ℕ → ℕ → ℕ → List ℕ
damaged_table f k x = set bytes_p (10 * f + k) x

abbrev pub live_tick_p : List ℕ → State → ℕ → TickOutcome
live_tick_p b s w = live_tick b s w

pub record LiveCases : Type 0 where
  pub prepared : prepare image_p (replicate 124 9) ≡ record { reply = success 120; buffer = bytes_p ++ replicate 4 9 }
  pub kept : prepare image_p (replicate 119 9) ≡ record { reply = refusal 16 0 0; buffer = replicate 119 9 }
  pub unchecked : prepare (changed_image 0 2 0) (replicate 124 9) ≡ record { reply = refusal 11 0 0; buffer = replicate 124 9 }
  pub holds : table_image bytes_p ≡ decoded_image (contents image_p)
  -- a state that does not fit, a plain tick, and a call at a full stack
  pub unfit : (live_tick_p bytes_p (state_with_labels 2 (3 ∷ 3 ∷ [])) 1).reply ≡ refusal 15 0 0
  pub plain : (live_tick_p bytes_p (state_with_labels 2 (2 ∷ 3 ∷ [])) 1).state ≡ state_with_labels 2 (2 ∷ 4 ∷ [])
  pub full : (live_tick_p bytes_p (state_with_labels 3 (2 ∷ 4 ∷ 4 ∷ [])) 1).reply ≡ refusal 17 0 0
  -- the same call with scheme 2 as the handler is a drop, but not over a label of the handler
  pub dropped : let r = live_tick_p (damaged_table 0 5 2) (state_with_labels 3 (2 ∷ 4 ∷ 4 ∷ [])) 1 in
      (r.reply ≡ success 1) × (r.mask ≡ 2) × (r.code ≡ 96) × (r.state ≡ handling_state 1 (3 ∷ 0 ∷ 0 ∷ []))
  pub bottom : (live_tick_p (damaged_table 0 5 2) (handling_state 3 (4 ∷ 4 ∷ 4 ∷ [])) 1).reply ≡ refusal 17 0 0
  -- a handler that is scheme 1, or above H
  pub first : (live_tick_p (damaged_table 0 5 1) (state_with_labels 1 (2 ∷ [])) 0).reply ≡ refusal 11 0 0
  pub high : (live_tick_p (damaged_table 0 5 3) (state_with_labels 1 (2 ∷ [])) 0).reply ≡ refusal 11 0 0
  -- a table that is cut off, or counts no scheme
  pub cut : (live_tick_p (take 119 bytes_p) (state_with_labels 1 (2 ∷ [])) 0).reply ≡ refusal 11 0 0
  pub counts : (live_tick_p (damaged_table 0 1 0) (state_with_labels 1 (2 ∷ [])) 0).reply ≡ refusal 11 0 0
  -- rows of label 2 that are noted to end behind the table, where those of label 3 then begin
  pub behind : (live_tick_p (damaged_table 5 1 255) (state_with_labels 2 (2 ∷ 3 ∷ [])) 0).reply ≡ refusal 18 0 0
  -- a number called that the table does not have counts as 0: what stands for number 1 is taken, and the code names none
  pub called : (live_tick_p (damaged_table 5 3 200) (state_with_labels 1 (2 ∷ [])) 0).code ≡ 16
  -- a function bit in a plain label's row does not count
  pub bit : (live_tick_p (damaged_table 10 6 1) (state_with_labels 2 (2 ∷ 3 ∷ [])) 1).state ≡ state_with_labels 2 (2 ∷ 4 ∷ [])
  -- a row that leads to no label of the table
  pub leading : (live_tick_p (damaged_table 10 7 200) (state_with_labels 2 (2 ∷ 3 ∷ [])) 1).reply ≡ success 1
