-- On a table that prepare wrote a live call is the call on the image.
use Rattle.std.specs.Prelude.{ℕ, ◌≤◌, ◌≡◌, List, take}
use Rattle.text.specs.frames.Answer.{success}
use Rattle.tables.specs.Prepare.{prepare}
use Rattle.state.specs.State.{State}
use Rattle.spindles.specs.Spindles.{spin, live_spin}

-- bytes behind the n that were written do not matter
abbrev pub PreparedSpin : Type 0
PreparedSpin =
    (t out : List ℕ) (n : ℕ) → (prepare t out).reply ≡ success n → (k : ℕ) → n ≤ k → (states : List State) (taken spindle w : ℕ)
    → live_spin (take k (prepare t out).buffer) states taken spindle w ≡ spin t states taken spindle w
