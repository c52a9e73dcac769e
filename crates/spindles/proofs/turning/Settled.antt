-- A turn of a state by the tick that it makes.
use Rattle.std.proofs.Common.{ℕ, ◌≡◌, refl, false, arith}
use Rattle.std.proofs.lemmas.Grind.{common_steps}
use Rattle.text.specs.frames.Verdict.{Verdict, fine, refused}
use Rattle.image.specs.Image.{Image}
use Rattle.state.specs.State.{State}
use Rattle.state.specs.Kept.{view}
use Rattle.state.specs.declared.State.{State as Kept}
use Rattle.ticks.specs.Tick.{MachineTick, finished, stopped}
use Rattle.runs.specs.TickOutcome.{TickOutcome, TickAnswer}
use Rattle.runs.specs.InPlace.{if_ticked, GivesTickOn}
use Rattle.runs.specs.inner.Sources.{sourced_tick}
use Rattle.runs.proofs.machine.OneTick.{advance_by}
use Rattle.spindles.specs.declared.SpinReport.{SpinReport}
use Rattle.spindles.specs.inner.Parts.{is_bad_record, turn_by, turn, GivesTurn}
use Rattle.spindles.proofs.OneCall.{sourced-tick-by}
use Rattle.spindles.specs.inner.TurnContracts.{GivesSettled}

-- ---- a tick that is refused leaves the state
left : (s : State) (v : Verdict) (d : MachineTick) → let x = advance_by s v d in if_ticked x x.state s ≡ x.state
left s (refused n i) d = grind (arith, common_steps)
left s fine (stopped n) = grind (arith, common_steps)
left s fine (finished m k t) = refl

abbrev pub Leaves : State → TickOutcome → Type 0
Leaves s x = if_ticked x x.state s ≡ x.state

leaves : (i : Image) (s : State) (w : ℕ) → Leaves s (sourced_tick fine i s w)
leaves i s w = grind (arith, common_steps, sourced-tick-by, left)

module _ {before new after : Kept} {ticked : TickAnswer} {taken : ℕ} {r : SpinReport} where
  -- with the tick in place
  settled-turns : (x : TickOutcome) → Leaves (view before) x → GivesTickOn x before ticked new
      → GivesSettled before new ticked taken r after → GivesTurn (turn_by (view before) taken x) before r after
  settled-turns x leaves made z = grind (arith, common_steps)

  -- where the record holds, the turn is the tick, judged by the places left
  pub turn-made : (i : Image) (sum w : ℕ) → is_bad_record sum taken ≡ false → GivesSettled before new ticked taken r after
      → GivesTickOn (sourced_tick fine i (view before) w) before ticked new
      → GivesTurn (turn (view before) sum taken (sourced_tick fine i (view before) w)) before r after
  turn-made i sum w good settles made = rw good (settled-turns _ (leaves i (view before) w) made settles)
