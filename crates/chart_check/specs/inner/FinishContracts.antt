-- What the functions of the depth-first search ask of their callers.
use Rattle.std.specs.Prelude.{ℕ, ◌≤◌, Bool, List, length}
use Rattle.text.specs.declared.frames.sizes.TheConstants.{NODES}
use Rattle.text.specs.frames.Frame.{size}
use Rattle.charts.specs.Chart.{Chart}
use Rattle.charts.specs.inner.Finished.{Finished}

-- a depth-first search: what is finished, and a path with room for all nodes
pub record DepthFirst (c : Chart) (unfinished : List Bool) (path : List ℕ) : Type 0 where
  pub few : size c ≤ NODES
  pub room : size c ≤ length path
  pub finished : Finished c unfinished
