-- `chart_check::chart_counts::count_node` meets its contract: the scheme of a good node has its place, and its count is no more than the
-- nodes.
use Rattle.std.proofs.Common.{arith}
use Rattle.std.proofs.lemmas.Grind.{common_steps}
use Rattle.chart_check.proofs.chart_counts.SchemeCounts.{counts-inside, counts-low}
use Rattle.chart_check.proofs.chart_counts.count_node.Goals as goal

pub bounds-counts-scheme : goal.bounds-counts-scheme
bounds-counts-scheme c = counts-inside _ _ _ _ c.requires.counted _ c.field-scheme.ensures c.requires.low

pub overflow_add-counts : goal.overflow_add-counts
overflow_add-counts c = grind (arith, common_steps, counts-low)

pub bounds-counts-scheme-then-field-kind : goal.bounds-counts-scheme-then-field-kind
bounds-counts-scheme-then-field-kind c = counts-inside _ _ _ _ c.requires.counted _ c.field-scheme.ensures c.requires.low
