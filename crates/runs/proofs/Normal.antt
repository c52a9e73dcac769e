-- The numbers that end any number of ticks, on any image and from any state.
use Rattle.std.proofs.Common.{ℕ, ◌≤◌, List, [], ◌∷◌, arith}
use Rattle.std.proofs.lemmas.Grind.{common_steps}
use Rattle.text.specs.frames.Verdict.{Verdict, fine, refused}
use Rattle.image.specs.Image.{Image}
use Rattle.state.specs.State.{State}
use Rattle.ticks.proofs.Normal.{tick-normal}
use Rattle.runs.specs.Run.{ticks}

-- no refusal of these numbers is one that a run tries before its first tick
abbrev pub Late : Verdict → Type 0
Late fine = Unit {0}
Late (refused n j) = (17 ≤ n) × (n ≤ 18)

pub ticks-late : (i : Image) (ws : List ℕ) (s : State) → Late (ticks i s ws).verdict
unfolding ticks
ticks-late i [] s = tt
ticks-late i (w ∷ ws) s = grind (arith, common_steps, tick-normal, ticks-late i ws)
