-- Slips of a drop, each a tick in the place of the machine's. Most do not meet the agreement; those in the result bits that a drop leaves,
-- which never show in a tick, hand back another state than the definition.
use Rattle.std.specs.Prelude.{ℕ, suc, ◌-◌, ◌&&◌, not, ◌≡◌, List, set, if◌then◌else◌, nat_le, ◌==◌}
use Rattle.results.specs.Results.{Results, with_result, cleared_results}
use Rattle.image.specs.Image.{Image, Label}
use Rattle.translator.specs.Entry.{translate}
use Rattle.state.specs.State.{State, label_at, entry_at, place_at, fresh_state}
use Rattle.state.specs.Changes.{with_places, with_place, with_opened, with_bits}
use Rattle.fitness.specs.Fitness.{is_call, is_of_handler}
use Rattle.ticks.specs.Tick.{row_leads, MachineTick, finished, stopped, moved_tick, state_alone, full_tick, tick, top_of}
use Rattle.ticks.specs.Functions.{is_at_full_call, return_tick}
use Rattle.runs.specs.Run.{run}
use Rattle.agreement.specs.Agreement.{Runner, Rebinder, Agreement}
use Rattle.bench.specs.Variants.{StepRule, run_by, top_number}

-- ---- the label at the top, the number that its scheme was called by, and the bits with its result
abbrev pub top_label : Image → State → Label
top_label i s = label_at i (top_of s)

abbrev pub written : Image → State → Results
written i s = with_result (top_label i s).result (top_number s) s.bits

-- the machine's tick, but after a drop the state is what f makes of the states before and after it
abbrev pub altered_tick : (State → State) → MachineTick → MachineTick
altered_tick f (finished m code t) = finished m code (if code == 96 then f t else t)
altered_tick f (stopped n) = stopped n

abbrev pub after_drop : (Image → State → State → State) → StepRule
after_drop f i s w = altered_tick (f i s) (tick i s w)

-- ---- 17 in the place of every drop
abbrev pub never_drops : StepRule
never_drops i s w = if is_at_full_call i s then stopped 17 else tick i s w

abbrev pub NeverDropsFails : Type 0
NeverDropsFails = (g : Rebinder) → Agreement translate fresh_state (run_by never_drops) g → ⊥

-- ---- a drop at depth Σ - 1
abbrev pub drops_early : StepRule
drops_early i s w =
    if is_call (top_label i s) && nat_le (s.size - 1) s.depth then full_tick i s (top_label i s).mask (written i s) else tick i s w

abbrev pub DropsEarlyFails : Type 0
DropsEarlyFails = (g : Rebinder) → Agreement translate fresh_state (run_by drops_early) g → ⊥

-- ---- a drop though the handler is at the bottom
abbrev pub drops_again : StepRule
drops_again i s w = if is_at_full_call i s && is_of_handler i (place_at s 0)
    then finished (top_label i s).mask 96 (state_alone s (entry_at i i.handler) i.handler (cleared_results i.handler (written i s)))
    else tick i s w

abbrev pub DropsAgainFails : Type 0
DropsAgainFails = (g : Rebinder) → Agreement translate fresh_state (run_by drops_again) g → ⊥

-- ---- a handler that counts zero: with it at the bottom there is a place more
abbrev pub resized_state : ℕ → State → State
resized_state n s = record {
  size = n;
  depth = s.depth;
  places = s.places;
  bits = s.bits;
  serving = s.serving;
  numbers = s.numbers;
  servers = s.servers;
}

abbrev pub tick_resized_after : ℕ → MachineTick → MachineTick
tick_resized_after n (finished m code t) = finished m code (resized_state n t)
tick_resized_after n (stopped k) = stopped k

abbrev pub counts_zero : StepRule
counts_zero i s w = if is_of_handler i (place_at s 0) then tick_resized_after s.size (tick i (resized_state (suc s.size) s) w)
    else tick i s w

abbrev pub CountsZeroFails : Type 0
CountsZeroFails = (g : Rebinder) → Agreement translate fresh_state (run_by counts_zero) g → ⊥

-- ---- a handler's scheme that was called taken for the handler at the bottom
abbrev pub heeds_called : StepRule
heeds_called i s w = if is_at_full_call i s && is_of_handler i (top_of s) then stopped 17 else tick i s w

abbrev pub HeedsCalledFails : Type 0
HeedsCalledFails = (g : Rebinder) → Agreement translate fresh_state (run_by heeds_called) g → ⊥

-- ---- a handler that returns to what stood beneath the caller: it starts in the caller's place
abbrev pub keeps_beneath : StepRule
keeps_beneath = after_drop (λ i s t. with_bits (with_opened s (s.depth - 1) (entry_at i i.handler) i.handler i.handler) t.bits)

abbrev pub KeepsBeneathFails : Type 0
KeepsBeneathFails = (g : Rebinder) → Agreement translate fresh_state (run_by keeps_beneath) g → ⊥

-- ---- a handler that returns to the dropped caller: a drop keeps the caller's label above the handler, and the return takes its row
abbrev pub returns_to_caller : StepRule
returns_to_caller i s w = if (top_label i s).kind == 3 && nat_le s.depth 1 && not (place_at s 1 == 0)
    then moved_tick 0 3 (state_alone s 0 1 s.bits) 0 (row_leads i s.bits (place_at s 1) w)
    else after_drop (λ i s t. with_place t 1 (top_of s)) i s w

abbrev pub ReturnsToCallerFails : Type 0
ReturnsToCallerFails = (g : Rebinder) → Agreement translate fresh_state (run_by returns_to_caller) g → ⊥

-- ---- the handler's return at depth 1 takes a row, of which label 1 has none
abbrev pub takes_row : StepRule
takes_row i s w =
    if (top_label i s).kind == 3 then return_tick s (row_leads i s.bits (place_at s (s.depth - 2)) w) else tick i s w

abbrev pub TakesRowFails : Type 0
TakesRowFails = (g : Rebinder) → Agreement translate fresh_state (run_by takes_row) g → ⊥

-- ---- the places above the handler left as they were: the next run gets 15
abbrev pub leaves_places : StepRule
leaves_places = after_drop (λ i s t. with_places t (set s.places 0 (entry_at i i.handler)) t.numbers t.servers)

abbrev pub LeavesPlacesFails : Type 0
LeavesPlacesFails = (g : Rebinder) → Agreement translate fresh_state (run_by leaves_places) g → ⊥

-- ---- slips in the result bits
-- the state that is handed back is the definition's
abbrev pub HandsBack : Runner → Type 0
HandsBack f = (image : List ℕ) (s : State) (ws ms ks : List ℕ) → (f image s ws ms ks).state ≡ (run image s ws ms ks).state

-- ---- a drop clears the bit of the number called
abbrev pub clears_called : StepRule
clears_called = after_drop (λ i s t. with_bits t (cleared_results (top_label i s).called t.bits))

abbrev pub ClearsCalledFails : Type 0
ClearsCalledFails = HandsBack (run_by clears_called) → ⊥

-- ---- a drop does not clear the bit of the handler
abbrev pub keeps_handler_bit : StepRule
keeps_handler_bit = after_drop (λ i s t. with_bits t (written i s))

abbrev pub KeepsHandlerBitFails : Type 0
KeepsHandlerBitFails = HandsBack (run_by keeps_handler_bit) → ⊥

-- ---- a drop forgets the caller's result
abbrev pub forgets_result : StepRule
forgets_result = after_drop (λ i s t. with_bits t (cleared_results i.handler s.bits))

abbrev pub ForgetsResultFails : Type 0
ForgetsResultFails = HandsBack (run_by forgets_result) → ⊥

-- ---- a drop clears the handler's bit before it writes the caller's result, and the caller is of the handler's scheme
abbrev pub clears_first : StepRule
clears_first = after_drop (λ i s t. with_bits t (with_result (top_label i s).result (top_number s) (cleared_results i.handler s.bits)))

abbrev pub ClearsFirstFails : Type 0
ClearsFirstFails = HandsBack (run_by clears_first) → ⊥
