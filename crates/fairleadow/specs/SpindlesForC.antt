-- What a call from C on four spindles hands back, and the states that it leaves.
use Rattle.std.specs.Prelude.{ℕ, ◌≡◌, List, map}
use Rattle.spindles.specs.Spindles.{SpinOutcome, spin, live_spin, if_spun, states_spun}
use Rattle.state.specs.declared.State.{State as Kept}
use Rattle.state.specs.Kept.{view}
use Rattle.fairleadow.specs.AnswersForC.{GivesReplyC}

-- one tick of a spindle among four whose states C keeps, and the same on a prepared table
abbrev pub spin_for : List ℕ → List Kept → ℕ → ℕ → ℕ → SpinOutcome
spin_for image states taken spindle word = spin image (map view states) taken spindle word

abbrev pub live_spin_for : List ℕ → List Kept → ℕ → ℕ → ℕ → SpinOutcome
live_spin_for table states taken spindle word = live_spin table (map view states) taken spindle word

-- a call that makes it, with the states before it and after it, mask and code before it, and the record, mask and code after it
pub record GivesSpinC (x : SpinOutcome) (before : List Kept) (spindle m₀ k₀ returned at made : ℕ)
    (after : List Kept) (recorded m k : ℕ) : Type 0 where
  pub told : GivesReplyC x.reply returned at made
  pub states : after ≡ states_spun before spindle x
  pub taken : recorded ≡ x.taken
  pub mask : m ≡ if_spun x x.mask m₀
  pub code : k ≡ if_spun x x.code k₀
