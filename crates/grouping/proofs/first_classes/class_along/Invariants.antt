-- `grouping::first_classes::class_along` meets its contract: no label between m and l holds the same as l.
use Rattle.grouping.proofs.Links.{Along}
use Rattle.grouping.proofs.first_classes.class_along.Given as goal

abbrev pub invariant-loop-m : goal.invariant-loop-m
invariant-loop-m l = Along l.table.bytes.now l.l l.m

abbrev pub decreases-loop-m : goal.decreases-loop-m
decreases-loop-m l = l.m
