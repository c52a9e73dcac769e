-- `chart_check::chart_arcs::check_arcs` meets its contract: what is found is refused, and where no arc is bad a call is.
use Rattle.text.proofs.frames.Chains.{judged-refused, judged-fine}
use Rattle.chart_check.proofs.chart_arcs.FaultCases.{no-fault, arc-fault, call-fault}
use Rattle.chart_check.proofs.chart_arcs.check_arcs.Goals as goal

pub returns-in-Some-lowest_bad_arc : goal.returns-in-Some-lowest_bad_arc
returns-in-Some-lowest_bad_arc c =
    judged-refused _ _ _ _ (arc-fault _ _ _ _ c.lowest_fault.ensures _ c.lowest_bad_arc.ensures _ c.in-Some-lowest_bad_arc.is)

pub returns-in-None : goal.returns-in-None
returns-in-None c =
    judged-refused _ _ _ _ (call-fault _ _ _ _ c.lowest_fault.ensures _ c.lowest_bad_arc.ensures _ c.in-None.is c.in-Some.is)

pub returns : goal.returns
returns c = judged-fine _ _ (no-fault _ _ _ _ c.lowest_fault.ensures c.in_default.is)
