-- Refusal 26, exactly: where all that is tried before the tick is passed, and the spindle's own tick is finished, the call is refused with
-- 26 if this tick is a call by its code and all 64 places are taken, and else not.
use Rattle.std.specs.Prelude.{ℕ, ◌≡◌, ◌↔◌, List}
use Rattle.text.specs.declared.frames.refusals.TheConstants.{NO_PLACE}
use Rattle.text.specs.frames.Verdict.{fine}
use Rattle.text.specs.frames.Answer.{success, refusal}
use Rattle.image.specs.Check.{image_verdict}
use Rattle.state.specs.State.{State, Sized}
use Rattle.runs.specs.TickOutcome.{image_tick}
use Rattle.spindles.specs.declared.layout.TheConstants.{STORE}
use Rattle.spindles.specs.Spindles.{state_at, head_verdict, spin}
use Rattle.spindles.specs.spindle_places.PlacesBalance.{places_called}

unfoldable pub NoPlaceExactly : Type 0
NoPlaceExactly =
    (t : List ℕ) (states : List State) (taken k w n : ℕ) → head_verdict (image_verdict t) states taken k ≡ fine → Sized (state_at states k)
    → let x = image_tick t (state_at states k) w in x.reply ≡ success n
    → ((spin t states taken k w).reply ≡ refusal NO_PLACE 0 0) ↔ ((places_called x.code (state_at states k).depth ≡ 1) × (taken ≡ STORE))
