-- `rows::compare_rows` meets its contract: the best row so far, with those still to come, is the best of all.
use Rattle.std.proofs.Common.{◌-◌, ◌%◌}
use Rattle.rows.specs.inner.Search.{swapped_word}
use Rattle.rows.proofs.SearchCases.{Comparing}
use Rattle.rows.proofs.compare_rows.Given as goal

abbrev pub invariant-loop-frame : goal.invariant-loop-frame
invariant-loop-frame l = Comparing l.bytes (swapped_word (l.swapped % 65536)) l.bit l.found l.first l.end l.frame l.best

abbrev pub decreases-loop-frame : goal.decreases-loop-frame
decreases-loop-frame l = l.end - l.frame
