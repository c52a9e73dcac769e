-- The list after a call stands for the states that the call hands back.
use Rattle.std.proofs.Common.{ℕ, ◌≡◌, List, map, arith}
use Rattle.std.proofs.lemmas.List.{map-set, set-get_or}
use Rattle.std.proofs.lemmas.Grind.{common_steps}
use Rattle.text.specs.frames.Verdict.{Verdict}
use Rattle.image.specs.Image.{Image}
use Rattle.state.specs.Kept.{view}
use Rattle.state.specs.declared.State.{State as Kept}
use Rattle.state.proofs.Stored.{state-back}
use Rattle.spindles.specs.Spindles.{SpinOutcome, states_spun, spin, live_spin}
use Rattle.spindles.proofs.OneCall.{Comes, turns_back, on, comes, spin-by, live-spin-by}

module _ (ys : List Kept) (taken k w : ℕ) where
  comes-viewed : (v : Verdict) (i : Image) {x : SpinOutcome} → Comes v i (map view ys) taken k w x
      → map view (states_spun ys k x) ≡ x.states
  comes-viewed v i (turns_back n j) = grind (arith, common_steps, map-set, set-get_or, state-back)
  comes-viewed v i (on m code t h u f g) = grind (arith, common_steps, map-set, set-get_or, state-back)

  pub views-spun : (t : List ℕ) → let x = spin t (map view ys) taken k w in map view (states_spun ys k x) ≡ x.states
  views-spun t = rw (spin-by) (comes-viewed _ _ (comes _ _ (map view ys) taken k w))

  pub live-views-spun : (b : List ℕ) → let x = live_spin b (map view ys) taken k w in map view (states_spun ys k x) ≡ x.states
  live-views-spun b = rw (live-spin-by) (comes-viewed _ _ (comes _ _ (map view ys) taken k w))
