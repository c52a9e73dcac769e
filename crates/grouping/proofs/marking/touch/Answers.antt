-- `grouping::marking::touch` meets its contract: it holds of the rows before frame f.
use Rattle.std.proofs.Common.{rules}
use Rattle.grouping.proofs.Touches.{touching-start, touching-turn, touching-all}
use Rattle.grouping.proofs.marking.touch.Goals as goal

pub loop-f-init : goal.loop-f-init
loop-f-init c = search (rules, touching-start)

pub loop-f-preserved : goal.loop-f-preserved
loop-f-preserved c = search (rules, touching-turn)

pub returns : goal.returns
returns c = search (rules, touching-all)
