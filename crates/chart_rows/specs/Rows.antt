-- The rows of a chart's labels: one for each path through conditions that take no tick.
use Rattle.std.specs.Prelude.{ℕ, zero, suc, ◌+◌, ◌^◌, true, false, List, [], ◌∷◌, ◌++◌, ◌==◌, flat_map}
use Rattle.std.specs.Int.{bit_at}
use Rattle.text.specs.frames.Frame.{size}
use Rattle.charts.specs.Layout.{Kind, Begin, End, Operation, Condition, Function, Unknown, kind_of}
use Rattle.charts.specs.Chart.{Chart, kind, argument, next0, next1, arc_taken}
use Rattle.walk.specs.Stops.{is_stop}
use Rattle.image.specs.declared.layout.TheConstants.{NO_BIT}
use Rattle.image.specs.Image.{Row}
use Rattle.chart_rows.specs.Labels.{label, numbered_nodes}

-- a path so far: the label that it left, the bits of the word that it tested as a care mask, their values, and the function bit or NO_BIT
pub record Path : Type 0 where
  pub from : ℕ
  pub care : ℕ
  pub values : ℕ
  pub bit : ℕ

-- a path that leaves label l with function bit f: nothing is tested yet
abbrev pub path_from : ℕ → ℕ → Path
path_from l f = record { from = l; care = 0; values = 0; bit = f }

-- the path after a test of condition number i: on its 0 side, and on its 1 side
abbrev pub side0 : Path → ℕ → Path
side0 p i = record { from = p.from; care = p.care + 2 ^ i; values = p.values; bit = p.bit }

abbrev pub side1 : Path → ℕ → Path
side1 p i = record { from = p.from; care = p.care + 2 ^ i; values = p.values + 2 ^ i; bit = p.bit }

-- path p at node v: a row for each way on, at most n nodes long, the 0 side first; a condition number met again follows the value taken
unfoldable pub paths : ℕ → Chart → Path → ℕ → List Row
paths zero c p v = []
paths (suc n) c p v = elim (is_stop c v) [
  | true ↦ record { from = p.from; care = p.care; values = p.values; bit = p.bit; next = label c v } ∷ []
  | false ↦ elim (bit_at p.care (argument c v) == 1) [
    | true ↦ paths n c p (arc_taken c p.values v)
    | false ↦ paths n c (side0 p (argument c v)) (next0 c v) ++ paths n c (side1 p (argument c v)) (next1 c v)
  ]
]

-- those of at most as many nodes as the chart has: in an accepted chart all
abbrev pub paths_of : Chart → Path → ℕ → List Row
paths_of c p v = paths (size c) c p v

-- the rows of a numbered stop by its kind: a function's bit comes first, and a stopping condition's own test does
abbrev pub rows_as : Chart → ℕ → Kind → List Row
rows_as c v Begin = paths_of c (path_from (label c v) NO_BIT) (next0 c v)
rows_as c v End = paths_of c (path_from (label c v) NO_BIT) (next0 c v)
rows_as c v Operation = paths_of c (path_from (label c v) NO_BIT) (next0 c v)
rows_as c v Condition = let p = path_from (label c v) NO_BIT in
    paths_of c (side0 p (argument c v)) (next0 c v) ++ paths_of c (side1 p (argument c v)) (next1 c v)
rows_as c v Function = paths_of c (path_from (label c v) 0) (next0 c v) ++ paths_of c (path_from (label c v) 1) (next1 c v)
rows_as c v Unknown = paths_of c (path_from (label c v) NO_BIT) (next0 c v)

unfoldable pub rows_of : Chart → ℕ → List Row
rows_of c v = rows_as c v (kind_of (kind c v))

unfoldable pub rows : Chart → List Row
rows c = flat_map (rows_of c) (numbered_nodes c)
