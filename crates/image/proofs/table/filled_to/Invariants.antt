-- `image::table::filled_to` meets its contract: the loop keeps what is left to look at.
use Rattle.std.proofs.Common.{◌≡◌, ◌-◌, ◌≤◌}
use Rattle.image.specs.Check.{is_filled}
use Rattle.image.proofs.table.filled_to.Given as goal

abbrev pub invariant-loop-j : goal.invariant-loop-j
invariant-loop-j l = (l.j ≤ l.end) × (is_filled l.table l.f l.j (l.end - l.j) ≡ is_filled l.table l.f l.k (l.end - l.k))
