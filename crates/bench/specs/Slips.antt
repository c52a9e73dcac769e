-- The six slips of the bench sheet, and a call that clears no bit: the machine, or the table, with one of them does not meet its statement.
use Rattle.std.specs.Prelude.{ℕ, zero, suc, ◌-◌, Bool, true, false, ◌&&◌, List, [], ◌∷◌, set, if◌then◌else◌, nat_le, ◌==◌, slice_index_or}
use Rattle.std.specs.Int.{bit_at}
use Rattle.results.specs.Results.{result_of, with_result}
use Rattle.text.specs.frames.Frame.{contents}
use Rattle.text.specs.frames.Answer.{buffer_on}
use Rattle.image.specs.Image.{Image, Label, Row, image_text}
use Rattle.translator.specs.Table.{table}
use Rattle.translator.specs.Entry.{translate_verdict, translate}
use Rattle.state.specs.State.{State, label_at, place_at, fresh_state}
use Rattle.state.specs.Changes.{with_bits}
use Rattle.ticks.specs.Tick.{MachineTick, finished, stopped, row_leads, popped_state, tick, top_of}
use Rattle.ticks.specs.Functions.{return_tick}
use Rattle.rows.specs.Rows.{best_row, lead_of}
use Rattle.agreement.specs.Agreement.{Translator, Rebinder, Agreement, Translates}
use Rattle.bench.specs.Variants.{StepRule, run_by, top_number}

-- the tick kind of the label at the top, and the label beneath it
abbrev pub kind_of : Image → State → ℕ
kind_of i s = (label_at i (top_of s)).kind

abbrev pub beneath : State → ℕ
beneath s = place_at s (s.depth - 2)

abbrev pub without_top : State → State
without_top s = popped_state s s.bits

-- ---- the call issued again on return: the label beneath stays and calls once more
abbrev pub calls_again : StepRule
calls_again i s w = if kind_of i s == 3 then finished 0 3 (without_top s) else tick i s w

abbrev pub CallsAgainFails : Type 0
CallsAgainFails = (g : Rebinder) → Agreement translate fresh_state (run_by calls_again) g → ⊥

-- ---- what a call saw is kept in a result bit that the chart has no scheme for, and the return goes by it
abbrev pub remembered_tick : ℕ → Bool → MachineTick → MachineTick
remembered_tick k x (finished m c t) = finished m c (with_bits t (set t.bits k x))
remembered_tick k x (stopped n) = stopped n

abbrev pub is_call_kind : ℕ → Bool
is_call_kind zero = false
is_call_kind (suc k) = nat_le k 1

-- ---- the result bit read at the call
abbrev pub reads_at_call : StepRule
reads_at_call i s w = if kind_of i s == 3
    then return_tick s (lead_of (best_row (beneath s) w (if slice_index_or s.bits 15 false then 1 else 0) 0 i.rows))
    else if kind_of i s == 2 then remembered_tick 15 (result_of (label_at i (top_of s)).called s.bits) (tick i s w) else tick i s w

abbrev pub ReadsAtCallFails : Type 0
ReadsAtCallFails = (g : Rebinder) → Agreement translate fresh_state (run_by reads_at_call) g → ⊥

-- ---- after a return the choice by the call's word
abbrev pub chooses_by_call : StepRule
chooses_by_call i s w = if kind_of i s == 3
    then return_tick s (row_leads i s.bits (beneath s) (if slice_index_or s.bits 15 false then 1 else 0))
    else if is_call_kind (kind_of i s) then remembered_tick 15 (bit_at w 0 == 1) (tick i s w) else tick i s w

abbrev pub ChoosesByCallFails : Type 0
ChoosesByCallFails = (g : Rebinder) → Agreement translate fresh_state (run_by chooses_by_call) g → ⊥

-- ---- a call keeps the bit of the number called as it is after the caller's result
abbrev pub kept_bit : State → Label → Bool
kept_bit s x = result_of x.called (with_result x.result (top_number s) s.bits)

abbrev pub keeps_bit : StepRule
keeps_bit i s w = let x = label_at i (top_of s) in
    if is_call_kind x.kind then remembered_tick (x.called - 1) (kept_bit s x) (tick i s w) else tick i s w

abbrev pub KeepsBitFails : Type 0
KeepsBitFails = (g : Rebinder) → Agreement translate fresh_state (run_by keeps_bit) g → ⊥

-- ---- a return from scheme 1
abbrev pub returns_home : StepRule
returns_home i s w = if kind_of i s == 4 then finished 0 3 (without_top s) else tick i s w

abbrev pub ReturnsHomeFails : Type 0
ReturnsHomeFails = (g : Rebinder) → Agreement translate fresh_state (run_by returns_home) g → ⊥

-- ---- a call at depth Σ - 1 refused
abbrev pub refuses_early : StepRule
refuses_early i s w = if is_call_kind (kind_of i s) && nat_le (s.size - 1) s.depth then stopped 17 else tick i s w

abbrev pub RefusesEarlyFails : Type 0
RefusesEarlyFails = (g : Rebinder) → Agreement translate fresh_state (run_by refuses_early) g → ⊥

-- ---- rows with equal targets joined: two neighbours of one label, bit and next label become one that cares for nothing
abbrev pub is_alike : Row → Row → Bool
is_alike r q = r.from == q.from && r.bit == q.bit && r.next == q.next

unfoldable pub joined_rows : List Row → List Row
joined_rows [] = []
joined_rows (r ∷ []) = r ∷ []
joined_rows (r ∷ q ∷ rs) = elim (is_alike r q) [
  | true ↦ record { from = r.from; care = 0; values = 0; bit = r.bit; next = r.next } ∷ joined_rows rs
  | false ↦ r ∷ joined_rows (q ∷ rs)
]

abbrev pub joined_table : Image → Image
joined_table i = record { handler = i.handler; entries = i.entries; labels = i.labels; rows = joined_rows i.rows }

abbrev pub joins_rows : Translator
joins_rows text out = buffer_on (translate_verdict text) 1 (λ _. image_text (joined_table (table (contents text)))) out

abbrev pub JoinsRowsFails : Type 0
JoinsRowsFails = Translates joins_rows → ⊥
