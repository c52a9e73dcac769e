-- A call over the list of states gives what its parts give: it is turned back, or a turn is put into the list.
use Rattle.std.proofs.Common.{◌≡◌, ℕ, zero, suc, ◌<◌, ◌≤◌, List, length, map, set, arith, refl, slice_index_or, Err}
use Rattle.std.proofs.lemmas.List.{get_or-map, get_or-set_same, set-get_or, length-map}
use Rattle.std.proofs.lemmas.Grind.{common_steps}
use Rattle.text.specs.frames.Verdict.{Verdict, fine, refused}
use Rattle.text.specs.frames.Answer.{reply, verdict_reply}
use Rattle.text.specs.declared.frames.refusals.Refusal.{Refusal}
use Rattle.text.specs.declared.frames.refusals.Refusal.TheVariants.{NoSpindle, Unfit}
use Rattle.image.specs.Image.{Image}
use Rattle.state.specs.State.{State, no_state}
use Rattle.state.specs.Kept.{view}
use Rattle.state.specs.declared.State.{State as Kept}
use Rattle.runs.specs.inner.Sources.{sourced_tick}
use Rattle.spindles.specs.declared.SpinReport.{SpinReport}
use Rattle.spindles.specs.Spindles.{state_at, GivesSpin}
use Rattle.spindles.specs.inner.Parts.{TurnOutcome, turn, GivesTurn, four_depths, turn_spun, sourced_spin}
use Rattle.spindles.proofs.InParts.{unnamed, unsourced, spun-parts}

-- the code reads a state with a default of its own
pub state-viewed : (ys : List Kept) (k : ℕ) (d : Kept) → k < length ys → state_at (map view ys) k ≡ view (slice_index_or ys k d)
state-viewed ys k d l = get_or-map view ys k d no_state l

-- no depth is above their sum
depth-low : (states : List State) (k : ℕ) → k < 4 → (state_at states k).depth ≤ four_depths states
depth-low states zero l = omega arith
depth-low states (suc zero) l = omega arith
depth-low states (suc (suc zero)) l = omega arith
depth-low states (suc (suc (suc zero))) l = omega arith
depth-low states (suc (suc (suc (suc k)))) l = absurd (omega arith)

pub summed-low : (ys : List Kept) (k : ℕ) (d : Kept) (sum : ℕ) → length ys ≡ 4 → k < 4 → sum ≡ four_depths (map view ys)
    → (slice_index_or ys k d).depth ≤ sum
summed-low ys k d sum n l q = grind (arith, common_steps, state-viewed, depth-low)

module _ (ys : List Kept) (taken k w : ℕ) where
  turned : (r : SpinReport) (d s : Kept) (x : TurnOutcome) → k < length ys → GivesTurn x (slice_index_or ys k d) r s
      → GivesSpin (turn_spun (map view ys) k x) ys k r (set ys k s)
  turned r d s x l z = grind (arith, common_steps, get_or-set_same, set-get_or, length-map)

  -- it is turned back
  abbrev pub by_refusal : Refusal → SpinReport
  by_refusal e = record { answer = Err e; taken = taken }

  module _ (i : Image) where
    pub unnamed-spun : (v : Verdict) → 4 ≤ k → GivesSpin (sourced_spin v i (map view ys) taken k w) ys k (by_refusal NoSpindle) ys
    unnamed-spun v l = rw (unnamed) (grind (arith, common_steps))

    pub unsourced-spun : (v : Verdict) (e : Refusal) → ((n j : ℕ) → v ≡ refused n j → (1 ≤ n) × (n ≤ 16))
        → reply (Err e) ≡ verdict_reply v 0 → k < 4 → GivesSpin (sourced_spin v i (map view ys) taken k w) ys k (by_refusal e) ys
    unsourced-spun fine e early f l = absurd (grind (arith, common_steps))
    unsourced-spun (refused n j) e early f l = let low = (early n j refl).0 in rw (unsourced) (grind (arith, common_steps))

    pub unfit-spun : (length ys ≡ 4 → ⊥) → k < 4
        → GivesSpin (sourced_spin fine i (map view ys) taken k w) ys k (by_refusal Unfit) ys
    unfit-spun n l = grind (arith, common_steps, spun-parts, length-map)

  pub turn-spun : (i : Image) (r : SpinReport) (d s : Kept) (sum : ℕ) → length ys ≡ 4 → k < 4 → sum ≡ four_depths (map view ys)
      → (let old = view (slice_index_or ys k d) in GivesTurn (turn old sum taken (sourced_tick fine i old w)) (slice_index_or ys k d) r s)
      → GivesSpin (sourced_spin fine i (map view ys) taken k w) ys k r (set ys k s)
  turn-spun i r d s sum n l q z = grind (arith, common_steps, spun-parts, length-map, state-viewed, turned)
