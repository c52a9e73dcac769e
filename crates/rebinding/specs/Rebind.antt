-- A rebinding between ticks: number h is served by scheme k from then on; refusal 22.
use Rattle.std.specs.Prelude.{ℕ, ◌≡◌, List, length, if◌then◌else◌, ◌==◌}
use Rattle.bindings.specs.Binding.{rebound_binding, is_bad_rebinding}
use Rattle.text.specs.declared.frames.refusals.TheConstants.{BAD_HEADER, UNFIT, BAD_REBINDING}
use Rattle.text.specs.frames.Frame.{contents}
use Rattle.text.specs.frames.Verdict.{Verdict, fine, refused, next, when}
use Rattle.text.specs.frames.Answer.{Answer, success, refusal, reply_number, reply}
use Rattle.image.specs.Image.{Image}
use Rattle.image.specs.Decode.{decoded_image}
use Rattle.image.specs.Check.{image_verdict}
use Rattle.tables.specs.Table.{is_bad_table, table_image}
use Rattle.state.specs.declared.State.{State as Kept}
use Rattle.state.specs.State.{State, StateOutcome}
use Rattle.state.specs.Changes.{with_serving}
use Rattle.state.specs.Kept.{stored}
use Rattle.fitness.specs.Fitness.{is_unfit}

-- open schemes go on as they are; only later calls find the new binding
abbrev pub rebinding : ℕ → ℕ → State → State
rebinding h k s = with_serving s (rebound_binding h k s.serving)

-- 15, then 22
abbrev pub rebind_verdict : Image → State → ℕ → ℕ → Verdict
rebind_verdict i s h k =
    next (when UNFIT (is_unfit i s)) λ _.
    when BAD_REBINDING (is_bad_rebinding (length i.entries) i.handler h k)

-- a refusal hands back the state as it was
abbrev pub rebind_on : Verdict → State → ℕ → ℕ → StateOutcome
rebind_on (refused n i) s h k = record { reply = refusal n i 0; state = s }
rebind_on fine s h k = record { reply = success 0; state = rebinding h k s }

-- what the image check tries comes first
unfoldable pub rebind : List ℕ → State → ℕ → ℕ → StateOutcome
rebind t s h k = rebind_on (next (image_verdict t) λ _. rebind_verdict (decoded_image (contents t)) s h k) s h k

-- on any bytes as a prepared table: 11 by the header and the length alone
unfoldable pub live_rebind : List ℕ → State → ℕ → ℕ → StateOutcome
live_rebind b s h k = rebind_on (next (when BAD_HEADER (is_bad_table b)) λ _. rebind_verdict (table_image b) s h k) s h k

-- what a function that rebinds promises: a refusal leaves the state just as it was lent
pub record GivesRebindingOn (x : StateOutcome) (before : Kept) (answer : Answer) (after : Kept) : Type 0 where
  pub answered : reply answer ≡ x.reply
  pub state : after ≡ (if reply_number x.reply == 0 then stored x.state else before)
