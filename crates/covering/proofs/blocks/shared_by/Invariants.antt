-- `covering::blocks::shared_by` meets its contract: what the rows before g share.
use Rattle.covering.specs.inner.Sharing.{Shares}
use Rattle.covering.proofs.blocks.shared_by.Given as goal

abbrev pub invariant-loop-g : goal.invariant-loop-g
invariant-loop-g l = Shares l.table l.first l.g l.care l.values
