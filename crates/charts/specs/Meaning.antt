-- What refusals 8 and 9 mean, with no marks in it: a circle of conditions, and a path from a scheme's Begin.
use Rattle.std.specs.Prelude.{ℕ, ◌<◌, true, false, ◌≡◌, ◌↔◌}
use Rattle.words.specs.graph.Paths.{Arc, Path}
use Rattle.text.specs.frames.Frame.{size}
use Rattle.charts.specs.Chart.{Chart, scheme, begin}
use Rattle.charts.specs.Check.{arcs, condition_arcs, is_on_circle, is_cut_off}

-- an arc of the condition v, and a path of arcs of conditions from its end back to v
pub record ConditionCircle (c : Chart) (v : ℕ) : Type 0 where
  pub second : ℕ
  pub leaves : Arc (size c) (condition_arcs c) v second
  pub back : Path (size c) (condition_arcs c) second v

-- 8 names a node exactly where it is on such a circle
abbrev pub CircleMeans : Type 0
CircleMeans = (c : Chart) (v : ℕ) → (is_on_circle c v ≡ true) ↔ ConditionCircle c v

-- a path of arcs from the Begin of its scheme
pub record JoinedNode (c : Chart) (v : ℕ) : Type 0 where
  pub inside : begin c (scheme c v) < size c
  pub path : Path (size c) (arcs c) (begin c (scheme c v)) v

-- 9 lets a node pass exactly where there is such a path to it
abbrev pub CutOffMeans : Type 0
CutOffMeans = (c : Chart) (v : ℕ) → (is_cut_off c v ≡ false) ↔ JoinedNode c v
