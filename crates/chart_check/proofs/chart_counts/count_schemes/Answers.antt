-- `chart_check::chart_counts::count_schemes` meets its contract: each node passed has good fields and is counted.
use Rattle.std.proofs.Common.{rules, ◌≡◌, sym, ◌∙◌, arith, max}
use Rattle.chart_check.proofs.chart_counts.PassLoops.{counting-none, counting-turn, counting-stop, counting-all, node-asked}
use Rattle.chart_check.proofs.chart_counts.count_schemes.Goals as goal
use Rattle.chart_check.proofs.chart_counts.count_schemes.Goals.{then-highest-scheme, else-highest-scheme}

pub loop-v-init : goal.loop-v-init
loop-v-init c = counting-none _ _ _ _ (search rules) c.requires.no_begins c.requires.no_ends

pub returns-then-bad_field-clause-told : goal.returns-then-bad_field-clause-told
returns-then-bad_field-clause-told c =
    counting-stop _ _ _ _ _ _ c.loop-v.invariant _ (search rules) (sym c.bad_field.ensures ∙ c.if-bad_field.true)

pub count_node-requires : goal.count_node-requires
count_node-requires c =
    node-asked _ _ _ _ c.loop-v.invariant.begins (search rules) c.requires.few (sym c.bad_field.ensures ∙ c.if-bad_field.false)

pub count_node-requires-in-loop-v : goal.count_node-requires-in-loop-v
count_node-requires-in-loop-v c =
    node-asked _ _ _ _ c.loop-v.invariant.ends (search rules) c.requires.few (sym c.bad_field.ensures ∙ c.if-bad_field.false)

pub loop-v-preserved : goal.loop-v-preserved
loop-v-preserved c =
    let highest : c.if-highest-scheme.highest ≡ max c.loop-v.highest c.field-scheme.result = elim c.if-highest-scheme.branch [
      | then-highest-scheme w ↦ omega (arith, w.highest-is, w.if-highest-scheme.true)
      | else-highest-scheme w ↦ omega (arith, w.highest-is, w.if-highest-scheme.false)
    ] in
    counting-turn _ _ _ _ _ _ c.loop-v.invariant _ _ _ _ (search rules) (sym c.bad_field.ensures ∙ c.if-bad_field.false)
    c.field-scheme.ensures highest c.count_node.ensures c.count_node-in-loop-v.ensures

pub returns : goal.returns
returns c =
    let all = counting-all _ _ _ _ _ _ c.loop-v.invariant (search rules) (search rules) in
    record { told = all.told; low = all.low; begins = all.begins; ends = all.ends }
