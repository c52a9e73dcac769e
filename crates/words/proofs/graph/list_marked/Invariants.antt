-- `words::graph::list_marked` meets its contract: the marked nodes passed are written, in their order.
use Rattle.std.proofs.Common.{◌≤◌, ◌≡◌, length}
use Rattle.words.proofs.graph.MarkedNodes.{Writing}
use Rattle.words.proofs.graph.list_marked.Given as goal

abbrev pub invariant-loop-v : goal.invariant-loop-v
invariant-loop-v l = Writing l.marks l.initial.list l.list l.count l.v × (l.v ≤ l.n) × (l.n ≡ length l.marks)
