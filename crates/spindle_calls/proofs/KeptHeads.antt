-- A list of states as it is kept, and the head that it stands for: one state of it, and what a call leaves.
use Rattle.std.proofs.Common.{if◌then◌else◌, ℕ, zero, suc, ◌≡◌, refl, sym, ◌∙◌, ap, ap₂, List, [], ◌∷◌, map, arith, set, ◌==◌}
use Rattle.std.proofs.lemmas.List.{map-set}
use Rattle.std.proofs.lemmas.Grind.{common_steps}
use Rattle.text.specs.frames.Answer.{reply_number}
use Rattle.state.specs.declared.State.{State as Kept}
use Rattle.state.specs.State.{State}
use Rattle.state.specs.Kept.{view, stored}
use Rattle.rebinding.specs.Rebind.{rebind}
use Rattle.agreement.proofs.OneCall.{rebound-holds}
use Rattle.spindles.specs.Spindles.{state_at, states_spun, spin}
use Rattle.spindles.proofs.spindle_list.Viewed.{views-spun}
use Rattle.spindles.specs.spindle_places.Calls.{Head, head_after, spins, rebinds}
use Rattle.spindle_calls.specs.Delivered.{kept_at}

abbrev pub head_of : List Kept → ℕ → Head
head_of states taken = record { states = map view states; taken = taken }

pub view-at : (states : List Kept) (k : ℕ) → view (kept_at states k) ≡ state_at (map view states) k
view-at states k = grind (arith, common_steps)

module _ (states : List Kept) (taken : ℕ) (image : List ℕ) (k : ℕ) where
  -- a tick leaves the head after it
  pub spun-left : (w : ℕ) (after : List Kept) (recorded : ℕ) → let x = spin image (map view states) taken k w in
      after ≡ states_spun states k x → recorded ≡ x.taken
      → head_after (head_of states taken) (spins image k w) ≡ head_of after recorded
  spun-left w after recorded e f = ap₂ (λ (ss : List State) (n : ℕ). record { states = ss; taken = n })
      (sym (ap (map view) e ∙ views-spun states taken k w image)) (sym f)

  -- and a rebinding of one state, put back in its place
  pub rebound-left : (n g : ℕ) (after : Kept) → let x = rebind image (view (kept_at states k)) n g in
      after ≡ (if reply_number x.reply == 0 then stored x.state else kept_at states k)
      → head_after (head_of states taken) (rebinds image k n g) ≡ head_of (set states k after) taken
  rebound-left n g after e = grind (arith, common_steps, map-set, view-at, rebound-holds)
