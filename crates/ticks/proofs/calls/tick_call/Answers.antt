use Rattle.std.proofs.Common.{refl, rules}
use Rattle.state.specs.Kept.{view}
use Rattle.ticks.proofs.TickCases.{next-inside}
use Rattle.ticks.proofs.calls.CalleeCases.{callee-few}
use Rattle.ticks.proofs.calls.CallCases.{call-steps}
use Rattle.ticks.proofs.calls.tick_call.Goals as goal

pub code_of-requires : goal.code_of-requires
code_of-requires c = callee-few _ c.args.table.now.whole _ _ _ c.callee_of-callee.ensures

pub returns : goal.returns
returns c =
    call-steps _ _ _ c.if-state-depth.false (next-inside (view c.args.state.now) c.requires.depth (search rules) c.if-state-depth.false) _ c.requires.label
    c.requires.calls _ c.numbered_label-label.ensures _ c.callee_of-callee.ensures _ c.code_of.ensures _ _ _ _
    c.put_result.ensures c.put_result-2.ensures c.open_place.ensures refl
