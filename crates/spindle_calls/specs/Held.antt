-- After a call from C the list that it was lent has the states after it, whatever result bytes it had before.
use Rattle.std.specs.Prelude.{ℕ, ◌≡◌, List, map}
use Rattle.state.specs.declared.State.{State as Kept}
use Rattle.state.specs.Kept.{view}
use Rattle.spindles.specs.Spindles.{SpinOutcome}
use Rattle.fairleadow.specs.SpindlesForC.{GivesSpinC}

-- a call on an image, and one on a prepared table
abbrev pub SpinnerC : Type 0
SpinnerC = List ℕ → List Kept → ℕ → ℕ → ℕ → SpinOutcome

unfoldable pub ListHolds : SpinnerC → Type 0
ListHolds f =
    (t : List ℕ) (states : List Kept) (taken k w m₀ k₀ returned at made : ℕ) (after : List Kept) (recorded m code : ℕ)
    → GivesSpinC (f t states taken k w) states k m₀ k₀ returned at made after recorded m code
    → map view after ≡ (f t states taken k w).states
