-- On a table that prepare wrote a live call is the call on the image.
use Rattle.std.proofs.Common.{ℕ, ◌≤◌, ◌≡◌, List, take}
use Rattle.text.specs.frames.Answer.{success}
use Rattle.tables.specs.Prepare.{prepare}
use Rattle.state.specs.State.{State}
use Rattle.agreement.proofs.OneCall.{prepared-holds}
use Rattle.spindles.specs.Spindles.{spin, live_spin}
use Rattle.spindles.proofs.Live.{live-spin-is}

module _ (t out : List ℕ) (n : ℕ) (e : (prepare t out).reply ≡ success n) (k : ℕ) (l : n ≤ k) where
  pub prepared-spin : (states : List State) (taken spindle w : ℕ)
      → live_spin (take k (prepare t out).buffer) states taken spindle w ≡ spin t states taken spindle w
  prepared-spin = live-spin-is (prepared-holds t out n e k l)
