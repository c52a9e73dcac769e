-- On the table that was prepared from an image, a call is the call on the image.
use Rattle.std.proofs.Common.{ℕ, ◌≡◌, List, arith}
use Rattle.std.proofs.lemmas.Grind.{common_steps}
use Rattle.state.specs.State.{State}
use Rattle.runs.specs.machine.Prepared.{PreparedTable}
use Rattle.runs.proofs.machine.Live.{live-tick-is}
use Rattle.spindles.specs.Spindles.{spin, live_spin}

module _ {t b : List ℕ} (p : PreparedTable t b) where
  pub live-spin-is : (states : List State) (taken k w : ℕ) → live_spin b states taken k w ≡ spin t states taken k w
  unfolding live_spin spin
  live-spin-is states taken k w = grind (arith, common_steps, live-tick-is)
