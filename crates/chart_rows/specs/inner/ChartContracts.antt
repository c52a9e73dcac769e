-- What functions on an accepted chart ask of their arguments: that it was accepted, one of its nodes, labels laid out by node.
use Rattle.std.specs.Prelude.{ℕ, ◌*◌, ◌≤◌, ◌<◌, ◌≡◌, List, length, slice_index}
use Rattle.text.specs.declared.frames.sizes.TheConstants.{RECORD, NODES}
use Rattle.text.specs.frames.Frame.{size}
use Rattle.text.specs.frames.Verdict.{fine}
use Rattle.charts.specs.Chart.{Chart, kind, next0, schemes, begin}
use Rattle.charts.specs.Check.{chart_verdict}
use Rattle.chart_rows.specs.Labels.{label}

-- an accepted chart: the whole records of 1 to 256 nodes, in bytes, and none of 4 to 9 and 19
pub record Ready (c : Chart) : Type 0 where
  pub whole : length c ≡ RECORD * size c
  pub some : 1 ≤ size c
  pub few : size c ≤ NODES
  pub bytes : (k : ℕ) → slice_index c k < 256
  pub accepted : chart_verdict c ≡ fine

-- the labels of all nodes, by node
pub record Labelled (c : Chart) (labels : List ℕ) : Type 0 where
  pub long : size c ≤ length labels
  pub at : (v : ℕ) → v < size c → slice_index labels v ≡ label c v

-- the Begin of each scheme, by scheme
pub record Begun (c : Chart) (begins : List ℕ) : Type 0 where
  pub long : length begins ≡ 17
  pub at : (h : ℕ) → 1 ≤ h → h ≤ schemes c → slice_index begins h ≡ begin c h

-- a node, beside `first`, the node that the Begin of scheme 1 leads to
pub record Beside (c : Chart) (first v : ℕ) : Type 0 where
  pub ready : Ready c
  pub leads : first ≡ next0 c (begin c 1)
  pub inside : v < size c

-- a node of an accepted chart; then one of kind k
pub record Inner (c : Chart) (v : ℕ) : Type 0 where
  pub ready : Ready c
  pub inside : v < size c

pub record OfKind (c : Chart) (k v : ℕ) : Type 0 where
  pub ready : Ready c
  pub inside : v < size c
  pub kind : kind c v ≡ k

-- an accepted chart with its labels; then a node of it
pub record Charted (c : Chart) (labels : List ℕ) : Type 0 where
  pub ready : Ready c
  pub labelled : Labelled c labels

pub record AtNode (c : Chart) (labels : List ℕ) (v : ℕ) : Type 0 where
  pub chart : Charted c labels
  pub inside : v < size c
