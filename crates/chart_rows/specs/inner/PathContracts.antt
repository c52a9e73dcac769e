-- What the functions on paths ask of their arguments: nodes that a path may come to, and its care mask and values there.
use Rattle.std.specs.Prelude.{ℕ, ◌+◌, ◌*◌, ◌^◌, ◌≤◌, ◌<◌, ◌≡◌, List, length, slice_index}
use Rattle.std.specs.Int.Bits.{bit_and}
use Rattle.text.specs.declared.frames.sizes.TheConstants.{NODES}
use Rattle.text.specs.frames.Frame.{size}
use Rattle.charts.specs.declared.layout.TheConstants.{BEGIN, CONDITION}
use Rattle.charts.specs.Chart.{Chart, kind}
use Rattle.chart_rows.specs.inner.ChartContracts.{Charted}
use Rattle.chart_rows.specs.inner.NodeRows.{paths_from, tested_number, untested_count}

-- notes on the nodes of an accepted chart: the label of each, and from 256 on the number of the condition that a path tests there
pub record Noted (c : Chart) (notes : List ℕ) : Type 0 where
  pub chart : Charted c notes
  pub long : 2 * NODES ≤ length notes
  pub numbers : (v : ℕ) → v < size c → slice_index notes (NODES + v) ≡ tested_number c v

pub record NotedAt (c : Chart) (notes : List ℕ) (v : ℕ) : Type 0 where
  pub noted : Noted c notes
  pub inside : v < size c

-- a node where an arc may end
pub record Entered (c : Chart) (v : ℕ) : Type 0 where
  pub inside : v < size c
  pub no_begin : kind c v ≡ BEGIN → ⊥

-- a node that a path comes to
pub record OnPath (c : Chart) (notes : List ℕ) (v : ℕ) : Type 0 where
  pub noted : Noted c notes
  pub entered : Entered c v

-- a path with its care mask and values at a node, and both arcs of a node
pub record PathAt (c : Chart) (notes : List ℕ) (care values v : ℕ) : Type 0 where
  pub noted : Noted c notes
  pub entered : Entered c v
  pub within : bit_and values care ≡ values

pub record SidesAt (c : Chart) (notes : List ℕ) (care values v : ℕ) : Type 0 where
  pub noted : Noted c notes
  pub inside : v < size c
  pub two : CONDITION ≤ kind c v
  pub within : bit_and values care ≡ values

-- a mask of the numbers that paths on from node v may test: they have at most that many values, so there are no more paths
pub record FewPaths (c : Chart) (v mask : ℕ) : Type 0 where
  pub most : (l f care values : ℕ) → length (paths_from (size c) c l f care values v) ≤ 2 ^ untested_count mask care

pub record Masked (c : Chart) (masks : List ℕ) : Type 0 where
  pub long : size c ≤ length masks
  pub few : (v : ℕ) → Entered c v → FewPaths c v (slice_index masks v)
