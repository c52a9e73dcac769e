-- What a function of the code asks of its callers.
use Rattle.std.specs.Prelude.{ℕ, ◌≤◌, ◌<◌, List}
use Rattle.text.specs.declared.frames.sizes.TheConstants.{FRAME}
use Rattle.text.specs.frames.Frame.{size}

-- what looking at the bytes of frame f from k up to end asks
pub record BytesAsked (b : List ℕ) (f k end : ℕ) : Type 0 where
  pub frame : f < size b
  pub up : k ≤ end
  pub ten : end ≤ FRAME
