-- A live rebinding on the table that was prepared from an image is the image's own, and a rebinding leaves a fitting state fitting.
use Rattle.std.specs.Prelude.{ℕ, false, ◌≡◌, List}
use Rattle.text.specs.frames.Frame.{contents}
use Rattle.text.specs.frames.Verdict.{fine}
use Rattle.image.specs.Decode.{decoded_image}
use Rattle.image.specs.Check.{image_verdict}
use Rattle.tables.specs.Table.{is_bad_table, table_image}
use Rattle.state.specs.State.{State, Sized}
use Rattle.fitness.specs.Fitness.{is_unfit}
use Rattle.rebinding.specs.Rebind.{rebind, live_rebind}

abbrev pub LiveRebindIs : Type 0
LiveRebindIs =
    (t b : List ℕ) → is_bad_table b ≡ false → table_image b ≡ decoded_image (contents t) → image_verdict t ≡ fine
    → (s : State) (h k : ℕ) → live_rebind b s h k ≡ rebind t s h k

-- every accepted image, whatever its rows
abbrev pub RebindFits : Type 0
RebindFits =
    (text : List ℕ) → image_verdict text ≡ fine → (s : State) (h k : ℕ)
    → let image = decoded_image (contents text) in
    Sized s → is_unfit image s ≡ false → is_unfit image (rebind text s h k).state ≡ false
