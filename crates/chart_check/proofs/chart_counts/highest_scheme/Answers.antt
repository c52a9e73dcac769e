use Rattle.std.proofs.Common.{rules, refl, arith}
use Rattle.std.proofs.lemmas.Grind.{common_steps}
use Rattle.words.specs.lists.Numbers.{highest}
use Rattle.words.proofs.lists.Searches.{highest-next}
use Rattle.chart_check.proofs.chart_counts.highest_scheme.Goals as goal
use Rattle.chart_check.proofs.chart_counts.highest_scheme.Goals.{then-highest-scheme, else-highest-scheme}

pub loop-v-init : goal.loop-v-init
unfolding highest
loop-v-init c = record { inside = search rules; highest = refl }

pub loop-v-preserved : goal.loop-v-preserved
loop-v-preserved c = grind (arith, common_steps, highest-next)
