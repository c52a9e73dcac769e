-- A rebinding by any source of a table: by what its bytes are refused for and the image that they hold. By an image's text it is `rebind`, by
-- a prepared table `live_rebind`.
use Rattle.std.specs.Prelude.{ℕ}
use Rattle.text.specs.frames.Verdict.{Verdict, next}
use Rattle.image.specs.Image.{Image}
use Rattle.state.specs.State.{State, StateOutcome}
use Rattle.rebinding.specs.Rebind.{rebind_verdict, rebind_on}

unfoldable pub sourced_rebind : Verdict → Image → State → ℕ → ℕ → StateOutcome
sourced_rebind v i s h k = rebind_on (next v λ _. rebind_verdict i s h k) s h k
