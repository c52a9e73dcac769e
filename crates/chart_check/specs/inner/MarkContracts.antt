-- The marks that a sweep leaves, and what functions that mark nodes ask of their callers: marks for all nodes, lists with room for all.
use Rattle.std.specs.Prelude.{ℕ, zero, suc, ◌≤◌, ◌≡◌, Bool, false, List, length, replicate, if◌then◌else◌}
use Rattle.words.specs.graph.Reach.{is_marked}
use Rattle.words.specs.inner.Listed.{mark_all, Listed}
use Rattle.text.specs.declared.frames.sizes.TheConstants.{NODES}
use Rattle.text.specs.frames.Frame.{size}
use Rattle.charts.specs.Chart.{Chart}
use Rattle.charts.specs.Check.{arcs}

-- the marks after the arcs of nodes 0 to n - 1 were followed, each node's where it was marked by then
unfoldable pub marks_swept_to : Chart → ℕ → List Bool → List Bool
marks_swept_to c zero ms = ms
marks_swept_to c (suc v) ms = let now = marks_swept_to c v ms in if is_marked now v then mark_all (arcs c v) now else now

-- as many nodes as a byte can number, and a list with room for all
pub record NodeRoom (c : Chart) (list : List ℕ) : Type 0 where
  pub few : size c ≤ NODES
  pub room : size c ≤ length list

-- a mark for each node, none set, and a list with room for all nodes
pub record Blank (c : Chart) (marks : List Bool) (list : List ℕ) : Type 0 where
  pub none : marks ≡ replicate (size c) false
  pub room : size c ≤ length list

-- a mark for each node, and a list with room for all, whose first k are the marked ones
pub record ListedRoom (c : Chart) (marks : List Bool) (list : List ℕ) (k : ℕ) : Type 0 where
  pub long : length marks ≡ size c
  pub room : size c ≤ length list
  pub listed : Listed marks list k
