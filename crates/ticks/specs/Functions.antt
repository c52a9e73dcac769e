-- A call leaves the bit of the number called 0, and a function's label takes its row for bit 0 if nothing writes 1 to that bit between
-- its call and its return: said of the machine's ticks, on any accepted image.
use Rattle.std.specs.Prelude.{ℕ, suc, ◌-◌, ◌≤◌, Bool, true, false, ◌&&◌, ◌≡◌, List, if◌then◌else◌, nat_le, ◌==◌}
use Rattle.results.specs.Results.{result_of, with_result}
use Rattle.bindings.specs.Binding.{Binding}
use Rattle.text.specs.declared.frames.codes.TheConstants.{RETURN_CODE, DROP_CODE}
use Rattle.text.specs.frames.Frame.{contents}
use Rattle.text.specs.frames.Verdict.{fine}
use Rattle.image.specs.declared.layout.TheConstants.{FUNCTION_CALL, RETURN}
use Rattle.image.specs.Image.{Image, Label}
use Rattle.image.specs.Decode.{decoded_image}
use Rattle.image.specs.Check.{image_verdict}
use Rattle.rows.specs.Rows.{best_row, Found, lead_of}
use Rattle.state.specs.State.{State, fresh, bottom_alone, label_at, entry_at, number_at, Sized}
use Rattle.state.specs.Changes.{with_serving}
use Rattle.fitness.specs.Fitness.{is_call, is_unfit}
use Rattle.ticks.specs.Tick.{MachineTick, finished, moved_tick, popped_state, tick, top_of}

-- the tick on s drops all open schemes or is refused: it is made at a call that finds the stack full
abbrev pub is_at_full_call : Image → State → Bool
is_at_full_call i s = is_call (label_at i (top_of s)) && nat_le s.size s.depth

-- a call that is made, of an operation or of a function, leaves the bit of the number called 0; one that drops leaves that of the handler 0
unfoldable pub CallClears : Type 0
CallClears =
    (i : Image) (s : State) → let x = label_at i (top_of s) in
    is_call x ≡ true → (w m code : ℕ) (t : State) → tick i s w ≡ finished m code t
    → result_of (if is_at_full_call i s then i.handler else x.called) t.bits ≡ false

-- a drop has the mask of the caller and code 60 hexadecimal, and leaves the handler's entry alone in the places, by its own number; the
-- handler's bit is then 0, and every other bit, that of the number called too, is as the caller's result left it; who serves stays
pub record Drop (i : Image) (x : Label) (s : State) (m code : ℕ) (t : State) : Type 0 where
  pub mask : m ≡ x.mask
  pub coded : code ≡ DROP_CODE
  pub alone : t.depth ≡ 1
  pub places : t.places ≡ bottom_alone (entry_at i i.handler)
  pub numbers : t.numbers ≡ bottom_alone i.handler
  pub servers : t.servers ≡ bottom_alone i.handler
  pub serving : t.serving ≡ s.serving
  pub cleared : result_of i.handler t.bits ≡ false
  pub kept : (h : ℕ) → 1 ≤ h → (h ≡ i.handler → ⊥)
      → result_of h t.bits ≡ result_of h (with_result x.result (number_at s (s.depth - 1)) s.bits)

unfoldable pub Drops : Type 0
Drops =
    (i : Image) (s : State) → is_at_full_call i s ≡ true → (w m code : ℕ) (t : State) → tick i s w ≡ finished m code t
    → Drop i (label_at i (top_of s)) s m code t

-- the tick on s writes 1 to the bit of number h: it is made at a label with result 2 of a scheme that h called
abbrev pub is_machine_write_of_one : Image → ℕ → State → Bool
is_machine_write_of_one i h s = number_at s (s.depth - 1) == h && (label_at i (top_of s)).result == 2

-- the tick on s is a return at depth d
abbrev pub is_return_at : Image → ℕ → State → Bool
is_return_at i d s = (label_at i (top_of s)).kind == RETURN && s.depth == d

-- finished ticks, and rebindings between them, lead from one state to another; none is a drop or a return at depth d, and none writes 1
-- to the bit of number h
pub data MachineUnwritten (i : Image) (h d : ℕ) : State → State → Type 0 where
  none : {s : State} → MachineUnwritten i h d s s
  more : (w : ℕ) {s t u : State} {m code : ℕ} → tick i s w ≡ finished m code t → is_at_full_call i s ≡ false → is_return_at i d s ≡ false
      → is_machine_write_of_one i h s ≡ false → MachineUnwritten i h d t u → MachineUnwritten i h d s u
  binding_changed : (g : Binding) {s u : State} → MachineUnwritten i h d (with_serving s g) u → MachineUnwritten i h d s u

-- a return: the top is taken off, and the label beneath goes where its row leads, or there is none
abbrev pub return_tick : State → Found → MachineTick
return_tick s row = moved_tick 0 RETURN_CODE (popped_state s s.bits) (s.depth - 2) row

-- For every accepted image and every state that fits it with a function call's label at the top: after the call that is made, and ticks
-- that drop nothing and write no 1 to the bit of the number called, with any rebindings between them, the call's own return goes by the
-- row that the label takes for bit 0.
unfoldable pub ZeroRow : Type 0
ZeroRow =
    (text : List ℕ) → image_verdict text ≡ fine → (s : State) → Sized s
    → let i = decoded_image (contents text) in is_unfit i s ≡ false
    → let x = label_at i (top_of s) in x.kind ≡ FUNCTION_CALL
    → (w m code : ℕ) (t u : State) → tick i s w ≡ finished m code t → is_at_full_call i s ≡ false
    → MachineUnwritten i x.called (suc s.depth) t u
    → is_return_at i (suc s.depth) u ≡ true → (v : ℕ) → tick i u v ≡ return_tick u (lead_of (best_row (top_of s) v 0 0 i.rows))

-- on every accepted image, whatever its rows: a fresh state fits, and a finished tick, a drop and a handler's return too, leaves a fitting
-- state fitting
unfoldable pub FreshFits : Type 0
FreshFits =
    (text : List ℕ) → image_verdict text ≡ fine → (n : ℕ) → 1 ≤ n → n ≤ 32 → is_unfit (decoded_image (contents text)) (fresh n) ≡ false

unfoldable pub TickFits : Type 0
TickFits =
    (text : List ℕ) → image_verdict text ≡ fine → (s : State) → Sized s
    → let image = decoded_image (contents text) in is_unfit image s ≡ false
    → (w m code : ℕ) (t : State) → tick image s w ≡ finished m code t → is_unfit image t ≡ false
