-- Parts of the rows, as the functions that count and write them have them, node by node.
use Rattle.std.specs.Prelude.{ℕ, zero, suc, Bool, true, false, ◌&&◌, not, List, [], ◌++◌, if◌then◌else◌, ◌==◌}
use Rattle.words.specs.lists.Numbers.{count}
use Rattle.std.specs.Int.{bit_at}
use Rattle.text.specs.frames.Frame.{size}
use Rattle.charts.specs.declared.layout.TheConstants.{CONDITION}
use Rattle.charts.specs.Chart.{Chart, argument, next0, next1, is, arc_taken}
use Rattle.walk.specs.Stops.{is_stop}
use Rattle.image.specs.Image.{Row}
use Rattle.chart_rows.specs.Labels.{is_numbered}
use Rattle.chart_rows.specs.Rows.{paths, rows_of}

-- the number of the condition that a path tests at node v, or 16 where no path goes on from it so
abbrev pub tested_number : Chart → ℕ → ℕ
tested_number c v = if is c CONDITION v && not (is_stop c v) then argument c v else 16

-- how many numbers of a mask a path with this care mask has not tested
abbrev pub untested_count : ℕ → ℕ → ℕ
untested_count mask care = count (λ i. bit_at mask i == 1 && bit_at care i == 0) 0 16

-- whether a path comes at node v to a condition whose number it has met before
abbrev pub is_known : Chart → ℕ → ℕ → Bool
is_known c care v = not (is_stop c v) && bit_at care (argument c v) == 1

-- the node where a path that comes to node v goes on, past the conditions that it has met before, at most n of them
unfoldable pub settled_node : ℕ → Chart → ℕ → ℕ → ℕ → ℕ
settled_node zero c care values v = v
settled_node (suc n) c care values v = elim (is_known c care v) [
  | true ↦ settled_node n c care values (arc_taken c values v)
  | false ↦ v
]

-- the paths on from node v, by the parts of the path so far
abbrev pub paths_from : ℕ → Chart → ℕ → ℕ → ℕ → ℕ → ℕ → List Row
paths_from n c l f care values v = paths n c (record { from = l; care = care; values = values; bit = f }) v

-- the paths on from the two arcs of node v, with function bits f and g; the side of the 1 has the values
abbrev pub sides : Chart → ℕ → ℕ → ℕ → ℕ → ℕ → ℕ → List Row
sides c l f g care values v = paths_from (size c) c l f care 0 (next0 c v) ++ paths_from (size c) c l g care values (next1 c v)

-- the rows of node v, none where it has no label of its own
abbrev pub node_rows : Chart → ℕ → List Row
node_rows c v = if is_numbered c v then rows_of c v else []
