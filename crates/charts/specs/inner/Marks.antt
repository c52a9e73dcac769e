-- The arcs that marks spread over, and the marks that they spread from.
use Rattle.std.specs.Prelude.{ℕ, Bool, List, map, if◌then◌else◌}
use Rattle.words.specs.lists.Numbers.{range}
use Rattle.text.specs.frames.Frame.{size}
use Rattle.charts.specs.Chart.{Chart, is}
use Rattle.charts.specs.Check.{arcs, condition_arcs}

-- all arcs, or those of conditions alone
abbrev pub arcs_by : Chart → Bool → ℕ → List ℕ
arcs_by c conditions v = if conditions then condition_arcs c v else arcs c v

-- the nodes of kind k
abbrev pub kind_marks : Chart → ℕ → List Bool
kind_marks c k = map (is c k) (range 0 (size c))
