-- The state that a run or a tick in place leaves stands for the one that the definition gives.
use Rattle.std.proofs.Common.{if◌then◌else◌, ℕ, ◌≡◌, ◌==◌, refl, Bool, true, false, List, [], ◌∷◌, length, arith}
use Rattle.std.proofs.lemmas.Grind.{common_steps}
use Rattle.text.specs.frames.Verdict.{Verdict, fine, refused}
use Rattle.text.specs.frames.Answer.{reply_number, counted_reply}
use Rattle.image.specs.Image.{Image}
use Rattle.state.specs.State.{State}
use Rattle.state.specs.declared.State.{State as Kept}
use Rattle.state.specs.Kept.{view, stored}
use Rattle.state.proofs.Stored.{state-back}
use Rattle.runs.specs.Run.{MachineRun, ticks, run_on}
use Rattle.runs.specs.TickOutcome.{TickOutcome, tick_outcome}
use Rattle.runs.specs.InPlace.{is_without_change, state_after, if_ticked}
use Rattle.ticks.proofs.Normal.{tick-normal}
use Rattle.runs.proofs.Normal.{Late, ticks-late}
use Rattle.runs.proofs.RunCases.{late-writes}

module _ (before : Kept) where
  abbrev s : State
  s = view before

  -- the struct as it was, or the state that it stands for as it is stored
  either : (t : Bool) (x y : Kept) → view x ≡ s → view y ≡ s → view (if t then x else y) ≡ s
  either true x y p q = p
  either false x y p q = q

  module _ (i : Image) (ws ms ks : List ℕ) where
    abbrev ran : MachineRun
    ran = ticks i s ws

    ran-held : (v : Verdict) → Late v → (n : ℕ)
        → view (if is_without_change (reply_number (counted_reply v n)) then before else stored ran.state) ≡ ran.state
    ran-held fine l n = state-back ran.state
    ran-held (refused k j) l n = grind (arith, common_steps, late-writes, state-back)

    pub run-held : (v : Verdict) → view (state_after before (run_on v (λ _. ran) s ms ks)) ≡ (run_on v (λ _. ran) s ms ks).state
    unfolding state_after
    run-held (refused k j) = either (is_without_change k) before (stored s) refl (state-back s)
    run-held fine = ran-held ran.verdict (ticks-late i ws s) (length ran.codes)

  -- a run of one word that is stopped hands back the state it was given
  module _ (i : Image) (w : ℕ) where
    abbrev one : Verdict → TickOutcome
    one v = tick_outcome (run_on v (λ _. ticks i s (w ∷ [])) s (0 ∷ []) (0 ∷ []))

    pub tick-held : (v : Verdict) → view (if_ticked (one v) (stored (one v).state) before) ≡ (one v).state
    unfolding ticks
    tick-held (refused k j) = either (k == 0) (stored s) before (state-back s) refl
    tick-held fine = grind (arith, common_steps, state-back, tick-normal)
