-- A dry run by what its three calls gave: refused by the translator, refused by the fresh state, and run.
use Rattle.std.proofs.Common.{ℕ, ◌≡◌, List, take, arith, Ok, Err}
use Rattle.std.proofs.lemmas.Grind.{common_steps}
use Rattle.text.specs.frames.Answer.{Answer, GivesBuffer}
use Rattle.text.specs.declared.frames.refusals.Refusal.{Refusal}
use Rattle.translator.specs.Entry.{translate}
use Rattle.state.specs.declared.StateReport.{StateReport}
use Rattle.state.specs.declared.State.{State as Kept}
use Rattle.state.specs.State.{fresh_state}
use Rattle.state.specs.Kept.{view, GivesState}
use Rattle.state.proofs.Stored.{state-back}
use Rattle.runs.specs.Run.{run}
use Rattle.runs.specs.InPlace.{GivesRunOn}
use Rattle.dry_runs.specs.DryRun.{dry_run, GivesDryRun}

module _ (text before : List ℕ) (size : ℕ) (ws ms ks : List ℕ) {answer : Answer} {after : List ℕ}
    (gives : GivesBuffer (translate text before) answer after) where
  -- the image refused
  pub untranslated : {r : Refusal} → answer ≡ Err r → {told : Answer} → told ≡ Err r
      → GivesDryRun (dry_run text size before ws ms ks) told after ms ks
  unfolding dry_run
  untranslated e is = grind (arith, common_steps)

  -- the image made, of n characters
  module _ {n : ℕ} (d : answer ≡ Ok n) {made : StateReport} (fresh : GivesState (fresh_state size) made) where
    -- and the state refused
    pub unmade : {r : Refusal} → made.answer ≡ Err r → {told : Answer} → told ≡ Err r
        → GivesDryRun (dry_run text size before ws ms ks) told after ms ks
    unfolding dry_run
    unmade e is = grind (arith, common_steps)

    -- or the run made
    pub ran : {told : Answer} {last : Kept} {masks codes : List ℕ}
        → GivesRunOn (run (take n after) (view made.state) ws ms ks) made.state told last masks codes
        → {m : ℕ} → made.answer ≡ Ok m → GivesDryRun (dry_run text size before ws ms ks) told after masks codes
    unfolding dry_run
    ran runs e = grind (arith, common_steps, state-back)
