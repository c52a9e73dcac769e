-- Slips of a rebinding, and of a run under one: none meets the agreement.
use Rattle.std.specs.Prelude.{ℕ, ◌+◌, ◌-◌, ◌*◌, ◌/◌, ◌%◌, ◌≤◌, false, ◌&&◌, ◌≡◌, List, map, length, set, nat_lt, nat_eq, ◌==◌, slice_index}
use Rattle.std.specs.Prelude.{if◌then◌else◌}
use Rattle.words.specs.lists.Numbers.{range}
use Rattle.std.specs.List.{list_any}
use Rattle.results.specs.Results.{result_of, with_result, cleared_results}
use Rattle.bindings.specs.Binding.{server_of, rebound_binding}
use Rattle.text.specs.frames.Frame.{contents}
use Rattle.text.specs.frames.Verdict.{Verdict, fine, refused}
use Rattle.text.specs.frames.Answer.{reply_number, success, refusal}
use Rattle.image.specs.Layout.{tick_kind}
use Rattle.image.specs.Image.{Image}
use Rattle.image.specs.Decode.{decoded_image}
use Rattle.image.specs.Check.{image_verdict}
use Rattle.translator.specs.Entry.{translate}
use Rattle.state.specs.State.{State, label_at, entry_at, place_at, number_at, server_at, StateOutcome, fresh_state}
use Rattle.state.specs.Changes.{with_places, with_serving}
use Rattle.fitness.specs.Fitness.{is_call}
use Rattle.rows.specs.Rows.{best_row, lead_of}
use Rattle.ticks.specs.Tick.{MachineTick, finished, stopped, opened_state, tick_by, tick, top_of}
use Rattle.ticks.specs.Functions.{return_tick}
use Rattle.runs.specs.Run.{run}
use Rattle.rebinding.specs.Rebind.{rebinding, rebind_verdict, rebind_on, rebind}
use Rattle.agreement.specs.Agreement.{Runner, Rebinder, output_of, Agreement}
use Rattle.bench.specs.Variants.{StepRule, run_by}

-- ---- a rebinding that does not count before the next return: a run with no return hands back what it does without the rebinding
abbrev pub ActsLater : Runner → Rebinder → Type 0
ActsLater f g = (image : List ℕ) (s : State) (h k : ℕ) (ws ms ks : List ℕ) → list_any (nat_eq 3) (f image s ws ms ks).codes ≡ false
    → output_of (f image (g image s h k).state ws ms ks) ≡ output_of (f image s ws ms ks)

abbrev pub ActsLaterFails : Type 0
ActsLaterFails = (f : Runner) (g : Rebinder) → ActsLater f g → Agreement translate fresh_state f g → ⊥

-- ---- a rebinding that changes nothing, whatever it answers
abbrev pub KeepsBinding : Rebinder → Type 0
KeepsBinding g = (image : List ℕ) (s : State) (h k : ℕ) → (g image s h k).state ≡ s

abbrev pub KeepsBindingFails : Type 0
KeepsBindingFails = (f : Runner) (g : Rebinder) → KeepsBinding g → Agreement translate fresh_state f g → ⊥

-- ---- the handler is rebound like any other
abbrev pub RebindsHandler : Rebinder → Type 0
RebindsHandler g = (image : List ℕ) (s : State) (k : ℕ) → let i = decoded_image (contents image) in
    2 ≤ k → k ≤ length i.entries → (g image s i.handler k).reply ≡ success 0

abbrev pub RebindsHandlerFails : Type 0
RebindsHandlerFails = (f : Runner) (g : Rebinder) → RebindsHandler g → Agreement translate fresh_state f g → ⊥

-- ---- rebindings as the definition has them, but for what is done after the image check
abbrev pub Swapper : Type 0
Swapper = Image → State → ℕ → ℕ → StateOutcome

abbrev pub checked : Verdict → State → StateOutcome → StateOutcome
checked fine s r = r
checked (refused n i) s r = record { reply = refusal n i 0; state = s }

abbrev pub rebind_by : Swapper → Rebinder
rebind_by f t s h k = checked (image_verdict t) s (f (decoded_image (contents t)) s h k)

-- ---- one that acts later: it is noted where number 1 stands, which nothing calls, and counts from the next return on
abbrev pub state_where_done : StateOutcome → State → State → State
state_where_done r t s = if reply_number r.reply == 0 then t else s

abbrev pub notes : Swapper
notes i s h k = let r = rebind_on (rebind_verdict i s h k) s h k in
    record { reply = r.reply; state = state_where_done r (with_serving s (set s.serving 0 (32 * h + k))) s }

abbrev pub counted_state : State → State
counted_state s = let n = slice_index s.serving 0 in if nat_lt n 32 then s
    else with_serving s (rebound_binding (n / 32) (n % 32) (set s.serving 0 1))

abbrev pub later : MachineTick → MachineTick
later (finished m code t) = finished m code (if code == 3 then counted_state t else t)
later (stopped n) = stopped n

abbrev pub counts_at_return : StepRule
counts_at_return i s w = later (tick i s w)

abbrev pub CountsAtReturnFails : Type 0
CountsAtReturnFails = Agreement translate fresh_state (run_by counts_at_return) (rebind_by notes) → ⊥

-- ---- the open schemes that number h called are swapped too: each starts anew as scheme k
abbrev pub reopened_state : Image → ℕ → ℕ → State → State
reopened_state i h k s = with_places s
    (map (λ j. if number_at s j == h then entry_at i k else place_at s j) (range 0 32))
    s.numbers
    (map (λ j. if number_at s j == h then k else server_at s j) (range 0 32))

abbrev pub swaps_open : Swapper
swaps_open i s h k = let r = rebind_on (rebind_verdict i s h k) s h k in
    record { reply = r.reply; state = state_where_done r (reopened_state i h k r.state) s }

abbrev pub SwapsOpenFails : Type 0
SwapsOpenFails = Agreement translate fresh_state run (rebind_by swaps_open) → ⊥

-- ---- a rebinding that is refused with 22 binds all the same
abbrev pub binds_refused : Swapper
binds_refused i s h k = record { reply = (rebind_on (rebind_verdict i s h k) s h k).reply; state = rebinding h k s }

abbrev pub BindsRefusedFails : Type 0
BindsRefusedFails = Agreement translate fresh_state run (rebind_by binds_refused) → ⊥

-- ---- results written to the bit of the scheme that serves
abbrev pub top_server : State → ℕ
top_server s = server_at s (s.depth - 1)

abbrev pub writes_by_server : StepRule
writes_by_server i s w = let x = label_at i (top_of s) in
    tick_by i s w (top_of s) x (with_result x.result (top_server s) s.bits) (tick_kind x.kind)

abbrev pub WritesByServerFails : Type 0
WritesByServerFails = Agreement translate fresh_state (run_by writes_by_server) rebind → ⊥

-- ---- results read at the bit of the scheme that served
abbrev pub reads_by_server : StepRule
reads_by_server i s w = if (label_at i (top_of s)).kind == 3
    then return_tick s (lead_of (best_row (place_at s (s.depth - 2)) w (if result_of (top_server s) s.bits then 1 else 0) 0 i.rows))
    else tick i s w

abbrev pub ReadsByServerFails : Type 0
ReadsByServerFails = Agreement translate fresh_state (run_by reads_by_server) rebind → ⊥

-- ---- results kept by the scheme that serves throughout: written, cleared and read at its bit
abbrev pub kept_by_server : StepRule
kept_by_server i s w =
    let x = label_at i (top_of s) in
    let b = with_result x.result (top_server s) s.bits in
    let k = server_of s.serving x.called in
    if is_call x && nat_lt s.depth s.size
    then finished x.mask ((if x.kind == 1 then 16 else 64) + x.called) (opened_state s (entry_at i k) x.called k (cleared_results k b))
    else if x.kind == 3 then reads_by_server i s w else writes_by_server i s w

abbrev pub KeptByServerFails : Type 0
KeptByServerFails = Agreement translate fresh_state (run_by kept_by_server) rebind → ⊥

-- ---- codes that show the scheme that serves
abbrev pub shown_tick : ℕ → ℕ → MachineTick → MachineTick
shown_tick h k (finished m code t) = finished m (if code == 96 then code else code - h + k) t
shown_tick h k (stopped n) = stopped n

abbrev pub shows_server : StepRule
shows_server i s w = let x = label_at i (top_of s) in
    if is_call x then shown_tick x.called (server_of s.serving x.called) (tick i s w) else tick i s w

abbrev pub ShowsServerFails : Type 0
ShowsServerFails = Agreement translate fresh_state (run_by shows_server) rebind → ⊥
