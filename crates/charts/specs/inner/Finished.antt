-- Conditions that a depth-first search has finished, so that they are known to be on no circle; the others are marked as unfinished.
use Rattle.std.specs.Prelude.{ℕ, ◌<◌, ◌≡◌, Bool, true, false, List, length}
use Rattle.words.specs.graph.Reach.{is_member, is_marked}
use Rattle.text.specs.frames.Frame.{size}
use Rattle.charts.specs.Chart.{Chart}
use Rattle.charts.specs.Check.{condition_arcs, is_on_circle}

-- no arc of condition v leads to an unfinished node
abbrev pub NoneAhead : Chart → List Bool → ℕ → Type 0
NoneAhead c unfinished v = (u : ℕ) → is_member u (condition_arcs c v) ≡ true → is_marked unfinished u ≡ false

-- no arc of a finished condition leads to an unfinished one, and no finished one is on a circle
pub record Finished (c : Chart) (unfinished : List Bool) : Type 0 where
  pub long : length unfinished ≡ size c
  pub ahead : (v : ℕ) → v < size c → is_marked unfinished v ≡ false → NoneAhead c unfinished v
  pub off : (v : ℕ) → v < size c → is_marked unfinished v ≡ false → is_on_circle c v ≡ false
