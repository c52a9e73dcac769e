-- Of every image that is accepted and that 23 does not refuse, and every state that fits it: with its labels renumbered the state fits the
-- smaller image, and ticks, runs and rebindings on that are those on the given one.
use Rattle.std.specs.Prelude.{ℕ, false, ◌≡◌, List}
use Rattle.text.specs.declared.frames.refusals.TheConstants.{FULL}
use Rattle.text.specs.frames.Frame.{contents}
use Rattle.text.specs.frames.Verdict.{fine}
use Rattle.image.specs.Image.{image_text}
use Rattle.image.specs.Decode.{decoded_image}
use Rattle.state.specs.State.{State, Sized}
use Rattle.fitness.specs.Fitness.{is_unfit}
use Rattle.ticks.specs.Tick.{MachineTick, finished, stopped, tick}
use Rattle.runs.specs.Run.{run}
use Rattle.rebinding.specs.Rebind.{rebind}
use Rattle.grouping.specs.Classes.{grouping}
use Rattle.minimising.specs.group_numbers.Smaller.{smaller_image}
use Rattle.minimising.specs.Entry.{minimise_verdict}
use Rattle.minimised.specs.Renamed.{renumbered_state, renamed_tick, renamed_run, renamed_state_outcome}

abbrev pub StillFits : Type 0
StillFits =
    (text : List ℕ) → minimise_verdict text ≡ fine → let i = decoded_image (contents text) in
    (s : State) → Sized s → is_unfit i s ≡ false → is_unfit (smaller_image i) (renumbered_state (grouping i) s) ≡ false

abbrev pub TicksAlike : Type 0
TicksAlike =
    (text : List ℕ) → minimise_verdict text ≡ fine → let i = decoded_image (contents text) in
    (s : State) → Sized s → is_unfit i s ≡ false
    → (w : ℕ) → tick (smaller_image i) (renumbered_state (grouping i) s) w ≡ renamed_tick (grouping i) (tick i s w)

-- a tick ends with 17 or goes on
abbrev pub Stops17 : MachineTick → Type 0
Stops17 (finished m k t) = Unit {0}
Stops17 (stopped k) = k ≡ FULL

-- 18 stops none
abbrev pub FindsRow : Type 0
FindsRow =
    (text : List ℕ) → minimise_verdict text ≡ fine → let i = decoded_image (contents text) in
    (s : State) → Sized s → is_unfit i s ≡ false → (w : ℕ) → Stops17 (tick i s w)

abbrev pub RunsAlike : Type 0
RunsAlike =
    (text : List ℕ) → minimise_verdict text ≡ fine → let i = decoded_image (contents text) in
    (s : State) → Sized s → is_unfit i s ≡ false → (ws ms ks : List ℕ)
    → run (image_text (smaller_image i)) (renumbered_state (grouping i) s) ws ms ks ≡ renamed_run (grouping i) (run text s ws ms ks)

abbrev pub RebindsAlike : Type 0
RebindsAlike =
    (text : List ℕ) → minimise_verdict text ≡ fine → let i = decoded_image (contents text) in
    (s : State) → Sized s → is_unfit i s ≡ false → (h k : ℕ)
    → rebind (image_text (smaller_image i)) (renumbered_state (grouping i) s) h k
    ≡ renamed_state_outcome (grouping i) (rebind text s h k)
